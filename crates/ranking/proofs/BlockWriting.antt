-- The bits of blocks, written one block after another, and the room that they take. Assumes nothing.
use Rattle.std.proofs.Common.{◌≡◌, ℕ, ◌+◌, ◌-◌, ◌*◌, ◌^◌, ◌<◌, ◌≤◌, min, Bool, List, [], ◌∷◌, ◌++◌, length, take, drop, sym, ap, ◌∙◌, subst, ap₂, ⊎_elim, append_assoc, append-nil, mul-add, arith, length-append}
use native.Mathlib.Nat.{pow-le-pow_left}
use borrow.Rule.Slice.PartMut.{put_mid}
use Rattle.std.specs.List.{AllByRecursion}
use Rattle.std.proofs.lemmas.List.{take_all, drop_all, take_at, take_rest, drop_at, length-drop, nil_from_length}
use Rattle.std.proofs.lemmas.Bool.{cases_lt}
use Rattle.classes.specs.Recordings.{Sized, Codes, width}
use Rattle.classes.specs.Classes.{words, same_counts}
use Rattle.classes.proofs.Counts.{tally_le_length}
use Rattle.classes.proofs.Widths.{width_least}
use Rattle.classes.proofs.Yields.{length_words, power_of_power}
use Rattle.extractors.specs.Calls.{Written}
use Rattle.extractors.proofs.Writing.{join, length_put_mid}
use Rattle.ranking.specs.Blocks.{by_blocks}
use Rattle.ranking.specs.Groups.{rank_bits}
use Rattle.ranking.specs.Ranks.{rank, class_size, block_bits}
use Rattle.ranking.specs.BlocksEven.{by_blocks_step}
use Rattle.ranking.proofs.GroupWriting.{rank_bits_fit}
use Rattle.ranking.specs.Scans.{size_tally}
use Rattle.ranking.specs.SymbolScan.{empty_size}

-- ROOM

-- a class has at most 2 ^ (w n) blocks, so a block of n codes gives at most w n bits
pub block_fits : (m : ℕ) → Sized m → (x : List ℕ) → length (block_bits m x) ≤ width m * length x
block_fits m sized x =
    let n = length x in
    let few : class_size m x ≤ m ^ n = omega (arith, size_tally m x, tally_le_length (same_counts m x) (words m n), length_words m n) in
    let wide : m ^ n ≤ 2 ^ (width m * n) = subst (λ k. m ^ n ≤ k) (power_of_power (width m) n) (pow-le-pow_left (width_least m sized).reaches n) in
    rank_bits_fit (class_size m x) (rank m x) (width m * n) (omega arith)

block_nil : (m : ℕ) → block_bits m [] ≡ []
block_nil m =
    let none : length (block_bits m []) ≤ 0 = rank_bits_fit (class_size m []) (rank m []) 0 (omega (arith, empty_size m)) in
    nil_from_length (block_bits m []) (omega arith)

-- BLOCKS

blocks_first : (b : ℕ) (f : List ℕ → List Bool) → f [] ≡ [] → 0 < b → (x block rest : List ℕ) → x ≡ block ++ rest → length block ≡ min b (length x) → by_blocks b f x ≡ f block ++ by_blocks b f rest
blocks_first b f nil some x block rest e l = by_blocks_step b f x nil some ∙ ap₂ (λ y z. f y ++ by_blocks b f z) parts.0 parts.1
  where
    parts : (take b x ≡ block) × (drop b x ≡ rest)
    parts = let long : length x ≡ length block + length rest = ap length e ∙ length-append block rest in ⊎_elim
        (λ (k : length x < b).
        let none : rest ≡ [] = nil_from_length rest (omega arith) in
        let whole : x ≡ block = e ∙ ap (λ y. block ++ y) none ∙ append-nil block in
        (take_all b x (omega arith) ∙ whole, drop_all b x (omega arith) ∙ sym none))
        (λ (k : b ≤ length x).
        let full : length block ≡ b = omega arith in
        (ap (take b) e ∙ take_at block rest b full, ap (drop b) e ∙ drop_at block rest b full))
        (cases_lt (length x) b)

pub parts_all : {X : Type 0} (P : X → Type 0) (xs ys : List X) → AllByRecursion P (xs ++ ys) → AllByRecursion P xs × AllByRecursion P ys
parts_all P [] ys h = (tt, h)
parts_all P (x ∷ xs) ys h = let r = parts_all P xs ys h.1 in ((h.0, r.0), r.1)

-- THE LOOP

-- the bits of all blocks but the rest are written, and the rest has room
pub record Writing (m b : ℕ) (x before rest : List ℕ) (given : ℕ) (out : List ℕ) : Type 0 where
  pub codes : Codes m rest
  pub room : given + width m * length rest ≤ length out
  pub bits : List Bool
  pub written : Written bits before given out
  pub left : bits ++ by_blocks b (block_bits m) rest ≡ by_blocks b (block_bits m) x

-- the next block
module _ {m b : ℕ} {x before rest : List ℕ} {given : ℕ} {out : List ℕ} {size : ℕ} (w : Writing m b x before rest given out) (sized : Sized m) (some : 0 < b)
    (es : size ≡ b) (block later : List ℕ) (e : rest ≡ block ++ later) (l : length block ≡ min size (length rest)) where
  long : length rest ≡ length block + length later
  long = ap length e ∙ length-append block later

  wide : width m * length rest ≡ width m * length block + width m * length later
  wide = ap (λ k. width m * k) long ∙ mul-add (width m) (length block) (length later)

  codes_cut : Codes m block × Codes m later
  codes_cut = parts_all (λ c. c < m) block later (subst (AllByRecursion (λ c. c < m)) e w.codes)

  pub next_codes : Codes m block
  next_codes = codes_cut.0

  pub next_short : length block ≤ b
  next_short = omega (arith, es)

  -- N is the size of its class and r its rank
  module _ {N r : ℕ} (en : N ≡ class_size m block) (er : r ≡ rank m block) where
    bits_are : rank_bits N r ≡ block_bits m block
    bits_are = ap₂ rank_bits en er

    pub next_room : given + length (rank_bits N r) ≤ length out
    next_room = omega (arith, ap length bits_are, block_fits m sized block, wide, w.room)

    pub next_tray : length (rank_bits N r) ≤ length (take (length out - given) (drop given out))
    next_tray = omega (arith, next_room, ap length (take_rest out given), length-drop given out)

    pub next_written : (q n : ℕ) (part : List ℕ) → Written (rank_bits N r) (take q (drop given out)) n part → length part ≡ length (take q (drop given out))
        → Writing m b x before later (given + n) (put_mid given q out part)
    next_written q n part u kept =
        let v = subst (λ t. Written t (take q (drop given out)) n part) bits_are u in
        let same : length (put_mid given q out part) ≡ length out = length_put_mid given q out part kept in
        record {
          codes = codes_cut.1;
          room = omega (arith, block_fits m sized block, wide, w.room, v.0);
          bits = w.bits ++ block_bits m block;
          written = join w.bits (block_bits m block) before out part given n q w.written v kept;
          left =
              append_assoc w.bits (block_bits m block) (by_blocks b (block_bits m) later)
              ∙ ap (λ t. w.bits ++ t) (sym (blocks_first b (block_bits m) (block_nil m) some rest block later e (l ∙ ap (λ k. min k (length rest)) es))) ∙ w.left;
        }
