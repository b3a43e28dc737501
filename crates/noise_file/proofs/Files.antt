-- Lemmas on the contents of a file and on the rules by which it is judged.
use Rattle.std.proofs.Common.{◌≡◌, ℕ, zero, suc, ◌+◌, ◌<◌, ◌≤◌, true, false, ◌&&◌, leb, ◌⊎◌, List, length, drop, is_some, IfOk, Some, None, Ok, Err, Option, Result, sym, refl, ap, ◌∙◌, inl, inr, arith}
use Rattle.std.specs.Option.{option_map}
use Rattle.std.proofs.lemmas.List.{length-take}
use Rattle.std.proofs.lemmas.Bool.{leb-true, eqb-true, le-leb, lt-leb, eq-eqb, and_parts, cases_lt}
use Rattle.noise_file.specs.declared.entry.Entry.{Entry}
use Rattle.noise_file.specs.declared.kind.Symbols.{Symbols}
use Rattle.noise_file.specs.declared.fault.FileFault.{FileFault}
use Rattle.noise_file.specs.declared.fault.FileFault.TheVariants.{Cut, Entries, KeyLength, Kind, Tower, Length, Letter}
use Rattle.noise_file.specs.First.{unless, first_over}
use Rattle.noise_file.specs.Letters.{symbols_of, code_in}
use Rattle.towers.specs.Towers.{tower_of}
use Rattle.noise_file.specs.Reading.{stray}
use Rattle.noise_file.specs.Contents.{entries, key_length, line_at, kind_byte, tower_byte, length_of, body_at, body}
use Rattle.noise_file.specs.Rules.{head_due, line_due, contents_due, end_due, body_due, letters_due, stray_in, due}
use Rattle.noise_file.specs.Opened.{Legible, Accepted}
use Rattle.extractors.specs.Calls.{Judged}
use Rattle.noise_file.specs.Entries.{symbols_in, body_in, Holds}
use Rattle.noise_file.proofs.Firsts.{silent, held, passed, stopped, over_silent, over_first, over_none}

pub body_at_rises : (bs : List ℕ) (i n : ℕ) → i ≤ n → body_at bs i ≤ body_at bs n
body_at_rises bs i zero l = let e : i ≡ 0 = omega arith in rw e (omega arith)
body_at_rises bs i (suc n) l = at (λ s. body_at_rises bs i n s) (cases_lt i (suc n))
  where
    at : (i ≤ n → body_at bs i ≤ body_at bs n) → (i < suc n) ⊎ (suc n ≤ i) → body_at bs i ≤ body_at bs (suc n)
    at before (inl lt) = omega (arith, before (omega arith))
    at before (inr ge) = let e : i ≡ suc n = omega arith in rw e (omega arith)

module _ (bs : List ℕ) where
  pub head_fits : head_due bs ≡ None → (2 ≤ length bs) × (1 ≤ entries bs) × (entries bs ≤ 15) × (1 ≤ key_length bs) × (key_length bs ≤ 32)
  head_fits h =
      let a = silent (unless (leb 2 (length bs)) (Cut (length bs))) _ h in
      let b = silent (unless (leb 1 (entries bs) && leb (entries bs) 15) Entries) _ a.1 in
      let long : leb 2 (length bs) ≡ true = held _ (Cut (length bs)) a.0 in
      let r = and_parts _ _ (held (leb 1 (entries bs) && leb (entries bs) 15) Entries b.0) in
      let k = and_parts _ _ (held (leb 1 (key_length bs) && leb (key_length bs) 32) KeyLength b.1) in
      (leb-true 2 (length bs) long, leb-true 1 (entries bs) r.0, leb-true (entries bs) 15 r.1, leb-true 1 (key_length bs) k.0, leb-true (key_length bs) 32 k.1)

  pub contents_fit : contents_due bs ≡ None → line_at (entries bs) ≤ length bs
  unfolding contents_due
  contents_fit h = leb-true (line_at (entries bs)) (length bs) (held _ (Cut (length bs)) (silent _ (first_over (entries bs) (line_due bs)) h).0)

  pub line_silent : contents_due bs ≡ None → (i : ℕ) → i < entries bs → line_due bs i ≡ None
  unfolding contents_due
  line_silent h = over_silent (line_due bs) (entries bs) (silent _ (first_over (entries bs) (line_due bs)) h).1

  pub contents_cut : length bs < line_at (entries bs) → contents_due bs ≡ Some (Cut (length bs))
  unfolding contents_due
  contents_cut l = stopped _ (first_over (entries bs) (line_due bs)) (Cut (length bs)) (rw (lt-leb (line_at (entries bs)) (length bs) l))

  contents_whole : line_at (entries bs) ≤ length bs → contents_due bs ≡ first_over (entries bs) (line_due bs)
  unfolding contents_due
  contents_whole l = passed _ (first_over (entries bs) (line_due bs)) (rw (le-leb (line_at (entries bs)) (length bs) l))

  pub contents_line : (i : ℕ) (e : FileFault) → line_at (entries bs) ≤ length bs → first_over i (line_due bs) ≡ None → line_due bs i ≡ Some e → i < entries bs → contents_due bs ≡ Some e
  contents_line i e l before here lt = contents_whole l ∙ over_first (line_due bs) i (entries bs) e before here lt

  pub contents_none : (i : ℕ) → line_at (entries bs) ≤ length bs → first_over i (line_due bs) ≡ None → i ≡ entries bs → contents_due bs ≡ None
  contents_none i l before e = contents_whole l ∙ (ap (λ n. first_over n (line_due bs)) (sym e) ∙ before)

  pub letters_body : (i : ℕ) (e : FileFault) → first_over i (body_due bs) ≡ None → body_due bs i ≡ Some e → i < entries bs → letters_due bs ≡ Some e
  unfolding letters_due
  letters_body i e before here lt = over_first (body_due bs) i (entries bs) e before here lt

  pub letters_none : (i : ℕ) → first_over i (body_due bs) ≡ None → i ≡ entries bs → letters_due bs ≡ None
  unfolding letters_due
  letters_none i before e = ap (λ n. first_over n (body_due bs)) (sym e) ∙ before

  pub body_due_is : (i at : ℕ) (kind : Symbols) (letters : List ℕ) (o : Option ℕ) → symbols_of (kind_byte bs i) ≡ Some kind → at ≡ body_at bs i → letters ≡ body bs i → o ≡ stray (code_in kind) letters → body_due bs i ≡ option_map (λ k. Letter (at + k)) o
  unfolding body_due
  body_due_is i at kind letters o k a l s =
      ap (λ x. option_map (λ k. Letter (body_at bs i + k)) (stray_in x (body bs i))) k
      ∙ (ap (λ ls. option_map (λ k. Letter (body_at bs i + k)) (stray (code_in kind) ls)) (sym l)
      ∙ (ap (λ x. option_map (λ k. Letter (body_at bs i + k)) x) (sym s)
      ∙ ap (λ n. option_map (λ k. Letter (n + k)) o) (sym a)))

  pub bodies_end : end_due bs ≡ None → body_at bs (entries bs) ≡ length bs
  bodies_end h = eqb-true (body_at bs (entries bs)) (length bs) (held _ _ h)

  line_fits : (i : ℕ) → line_due bs i ≡ None → (is_some (symbols_of (kind_byte bs i)) ≡ true) × (is_some (tower_of (tower_byte bs i)) ≡ true) × (length_of bs i ≤ 4096)
  line_fits i h =
      let a = silent (unless (is_some (symbols_of (kind_byte bs i))) (Kind (line_at i))) _ h in
      let b = silent (unless (is_some (tower_of (tower_byte bs i))) (Tower (line_at i + 1))) _ a.1 in
      let short : leb (length_of bs i) 4096 ≡ true = held _ (Length (line_at i + 2)) b.1 in
      (held _ (Kind (line_at i)) a.0, held _ (Tower (line_at i + 1)) b.0, leb-true (length_of bs i) 4096 short)

  pub legible : contents_due bs ≡ None → end_due bs ≡ None → (i : ℕ) → i < entries bs → Legible bs i
  legible h e i l =
      let f = line_fits i (line_silent h i l) in
      let up : body_at bs (suc i) ≤ body_at bs (entries bs) = body_at_rises bs (suc i) (entries bs) l in
      let end : body_at bs (entries bs) ≡ length bs = bodies_end e in
      record { listed = omega arith; kind = f.0; tower = f.1; short = f.2; within = omega arith }

  of_kind : letters_due bs ≡ None → (i : ℕ) → i < entries bs → (kind : Symbols) → symbols_of (kind_byte bs i) ≡ Some kind → stray (code_in kind) (body bs i) ≡ None
  unfolding letters_due
  of_kind h i l kind k = none _ (sym (body_due_is i (body_at bs i) kind (body bs i) (stray (code_in kind) (body bs i)) k refl refl refl) ∙ over_silent (body_due bs) (entries bs) h i l)
    where
      none : (o : Option ℕ) → option_map (λ k. Letter (body_at bs i + k)) o ≡ None → o ≡ None
      none None e = refl
      none (Some x) e = cc

  -- a file with no refusal due is acceptable
  pub accepted : due bs ≡ None → Accepted bs
  unfolding due
  accepted h =
      let a = silent (head_due bs) _ h in
      let b = silent (contents_due bs) _ a.1 in
      let c = silent (end_due bs) (letters_due bs) b.1 in
      let f = head_fits a.0 in
      record { some_entry = f.1; few_entries = f.2; some_key = f.3; short_key = f.4; contents = contents_fit b.0; legible = legible b.0 c.0; bodies_end = bodies_end c.0; of_kind = of_kind c.1 }

  -- each part of the judgement, where the parts before it are silent
  pub due_at_head : (e : FileFault) → head_due bs ≡ Some e → due bs ≡ Some e
  unfolding due
  due_at_head e h = stopped (head_due bs) _ e h

  pub due_at_contents : (e : FileFault) → head_due bs ≡ None → contents_due bs ≡ Some e → due bs ≡ Some e
  unfolding due
  due_at_contents e h c = passed (head_due bs) _ h ∙ stopped (contents_due bs) _ e c

  pub due_at_end : (e : FileFault) → head_due bs ≡ None → contents_due bs ≡ None → end_due bs ≡ Some e → due bs ≡ Some e
  unfolding due
  due_at_end e h c n = passed (head_due bs) _ h ∙ (passed (contents_due bs) _ c ∙ stopped (end_due bs) (letters_due bs) e n)

  pub due_at_letters : head_due bs ≡ None → contents_due bs ≡ None → end_due bs ≡ None → due bs ≡ letters_due bs
  unfolding due
  due_at_letters h c n = passed (head_due bs) _ h ∙ (passed (contents_due bs) _ c ∙ passed (end_due bs) (letters_due bs) n)

  -- an opened file: no refusal is due, so it is an accepted one, whose contents are in order and whose bodies end with it
  none_open : is_some (due bs) ≡ false → due bs ≡ None
  none_open h = none (due bs) h
    where
      none : (o : Option FileFault) → is_some o ≡ false → o ≡ None
      none None e = refl
      none (Some x) e = cc

  pub open_accepted : is_some (due bs) ≡ false → Accepted bs
  open_accepted h = accepted (none_open h)

  pub open_bodies : is_some (due bs) ≡ false → (contents_due bs ≡ None) × (end_due bs ≡ None)
  unfolding due
  open_bodies h =
      let b = silent (contents_due bs) _ (silent (head_due bs) _ (none_open h)).1 in
      (b.0, (silent (end_due bs) (letters_due bs) b.1).0)

  -- the whole judgement is that of the letters, where all before it is silent
  pub judged : {X : Type 0} (r : Result X FileFault) → head_due bs ≡ None → contents_due bs ≡ None → end_due bs ≡ None → Judged (letters_due bs) r → Judged (due bs) r × IfOk r (λ _. Accepted bs)
  judged (Ok x) h c n l = let d : due bs ≡ None = due_at_letters h c n ∙ l in (d, accepted d)
  judged (Err e) h c n l = (due_at_letters h c n ∙ l, tt)

  -- the first stray letter of an entry is the refusal that is due to its body
  pub stray_due : (i : ℕ) (e : Entry) (o : Option ℕ) → Holds bs i e → o ≡ stray (code_in (symbols_in e)) (body_in e).letters.now → body_due bs i ≡ option_map (λ k. Letter ((body_in e).at + k)) o
  stray_due i e o h s = body_due_is i (body_in e).at (symbols_in e) (body_in e).letters.now o h.kind h.place h.letters s

  -- an entry of an accepted file has letters of its kind alone, and few of them
  pub entry_of_kind : (i : ℕ) (e : Entry) → Accepted bs → i < entries bs → Holds bs i e → stray (code_in (symbols_in e)) (body_in e).letters.now ≡ None
  entry_of_kind i e a l h = ap (stray (code_in (symbols_in e))) h.letters ∙ a.of_kind i l (symbols_in e) h.kind

  pub entry_short : (i : ℕ) (e : Entry) → Accepted bs → i < entries bs → Holds bs i e → length (body_in e).letters.now ≤ 4096
  entry_short i e a l h =
      let same : length (body_in e).letters.now ≡ length (body bs i) = ap length h.letters in
      omega (arith, (a.legible i l).short, length-take (length_of bs i) (drop (body_at bs i) bs))

  head_none : Accepted bs → head_due bs ≡ None
  head_none a =
      let long : 2 ≤ length bs = omega (arith, a.contents) in
      simp (le-leb 2 (length bs) long, le-leb 1 (entries bs) a.some_entry, le-leb (entries bs) 15 a.few_entries, le-leb 1 (key_length bs) a.some_key, le-leb (key_length bs) 32 a.short_key)

  line_none : (i : ℕ) → Legible bs i → line_due bs i ≡ None
  line_none i g = simp (g.kind, g.tower, le-leb (length_of bs i) 4096 g.short)

  body_none : (i : ℕ) → Legible bs i → ((kind : Symbols) → symbols_of (kind_byte bs i) ≡ Some kind → stray (code_in kind) (body bs i) ≡ None) → body_due bs i ≡ None
  body_none i g s = at (symbols_of (kind_byte bs i)) refl
    where
      at : (o : Option Symbols) → symbols_of (kind_byte bs i) ≡ o → body_due bs i ≡ None
      at None e = let no : true ≡ false = cc in cc
      at (Some kind) e =
          body_due_is i (body_at bs i) kind (body bs i) (stray (code_in kind) (body bs i)) e refl refl refl
          ∙ ap (option_map (λ k. Letter (body_at bs i + k))) (s kind e)

  -- and no refusal is due to an acceptable file
  pub none_due : Accepted bs → due bs ≡ None
  none_due a =
      due_at_letters (head_none a)
      (contents_none (entries bs) a.contents (over_none (line_due bs) (entries bs) (λ i l. line_none i (a.legible i l))) refl)
      (simp (eq-eqb (body_at bs (entries bs)) (length bs) a.bodies_end))
      ∙ letters_none (entries bs) (over_none (body_due bs) (entries bs) (λ i l. body_none i (a.legible i l) (a.of_kind i l))) refl
