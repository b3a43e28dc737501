-- Lanes that are counted, begun and placed one behind the other in one list. Assumes nothing.
use Rattle.std.proofs.Common.{◌≡◌, ℕ, zero, suc, ◌+◌, ◌-◌, ◌<◌, ◌≤◌, List, [], ◌∷◌, ◌++◌, ◌⊎◌, length, get_or, take, drop, set, sym, ap, ap₂, ◌∙◌, subst, inl, inr, add-one, arith, append_assoc, append-nil, length-drop, length-set}
use Rattle.std.proofs.ByRecursion.{All-get_or}
use Rattle.std.proofs.lemmas.List.{take_at, get_or-take, length-take, get_or-set_same, get_or-set_other, drop-set-add, drop-set-lt, take-set-le, take_more_set, drop_all}
use Rattle.std.proofs.lemmas.List.FromFn.{get_or-map-range_with_len, length-map-range_with_len}
use Rattle.std.proofs.lemmas.Bool.{cases_lt, cases_eq}
use Rattle.classes.specs.Recordings.{Codes}
use Rattle.extractors.specs.Lanes.{lane}
use Rattle.extractors.specs.Rows.{Filed}
use Rattle.blum.specs.Totals.{total, total_up}
use Rattle.blum.specs.Flat.{most_states, part, parts, AllCounted, exits_before, AllBegun, AllPlaced}
use Rattle.blum.proofs.Loops.{visit, pass, at_end, lanes_fit}

-- COUNTS

-- what is counted of the codes before i, and what the rest of the recording has yet to give
pub record Counting (x : List ℕ) (i : ℕ) (counts : List ℕ) : Type 0 where
  pub long : length counts ≡ most_states
  pub each : (s : ℕ) → s < most_states → get_or counts s 0 + length (lane s (drop i x)) ≡ length (lane s x)

-- a code among the first n, which are all but the last
pub visited : (x : List ℕ) (n i : ℕ) → n ≡ length x - 1 → i < length (take n x) → (c : ℕ) → c ≡ get_or (take n x) i 0 → (i + 1 < length x) × (c ≡ get_or x i 0)
visited x n i e h c is = let below : i < n = omega (arith, length-take n x) in (omega (arith, length-take n x), is ∙ get_or-take n x i 0 below)

-- the exit of the code at i is counted
pub count_one : (x : List ℕ) (i : ℕ) (counts : List ℕ) → Counting x i counts → Codes most_states x → (c : ℕ) → i + 1 < length x → c ≡ get_or x i 0
    → Counting x (i + 1) (set counts c (get_or counts c 0 + 1))
count_one x i counts so_far codes c h at =
    let here : c < most_states = omega (arith, All-get_or (λ b. b < most_states) x i 0 (omega arith) codes) in
    record {
      long = length-set counts c (get_or counts c 0 + 1) ∙ so_far.long;
      each = λ s hs. elim (cases_eq s c) [
        | inl e ↦
            let one : get_or (set counts c (get_or counts c 0 + 1)) c 0 ≡ get_or counts c 0 + 1 = get_or-set_same counts c (get_or counts c 0 + 1) 0 (omega (arith, so_far.long)) in
            subst (λ t. get_or (set counts c (get_or counts c 0 + 1)) t 0 + length (lane t (drop (i + 1) x)) ≡ length (lane t x)) (sym e)
            (omega (arith, one, so_far.each c here, ap length (visit x c i h (sym at))))
        | inr ne ↦
            let same : get_or (set counts c (get_or counts c 0 + 1)) s 0 ≡ get_or counts s 0 = get_or-set_other counts c s (get_or counts c 0 + 1) 0 ne in
            omega (arith, same, so_far.each s hs, ap length (pass x s i (omega arith) (λ e. ne (sym e ∙ sym at))))
      ];
    }

-- the last code has no exit, so it needs no visit
pub all_counted : (x : List ℕ) (i : ℕ) (counts : List ℕ) → Counting x i counts → length x ≤ i + 1 → AllCounted x counts
all_counted x i counts so_far h s hs = omega (arith, so_far.each s hs, ap length (none_left (cases_lt i (length x))))
  where
    none_left : (i < length x) ⊎ (length x ≤ i) → lane s (drop i x) ≡ []
    none_left (inl lt) = at_end x s i lt h ∙ ap (lane s) (drop_all (i + 1) x h)
    none_left (inr le) = ap (lane s) (drop_all i x le)

-- BEGINNINGS

-- a lane ends where a later one begins, at the latest
before_apart : (x : List ℕ) (s c : ℕ) → s < c → exits_before s x + length (lane s x) ≤ exits_before c x
unfolding exits_before
before_apart x s c h = total_up s c (λ t. length (lane t x)) h

pub before_fits : (m : ℕ) (x : List ℕ) (s : ℕ) → Codes m x → s < m → exits_before s x + length (lane s x) ≤ length x
unfolding exits_before
before_fits m x s h hs = omega (arith, total_up s m (λ t. length (lane t x)) hs, lanes_fit m x h)

pub before_none : (x : List ℕ) → exits_before 0 x ≡ 0
unfolding exits_before
before_none x = omega arith

pub before_next : (x : List ℕ) (s : ℕ) → exits_before (s + 1) x ≡ exits_before s x + length (lane s x)
unfolding exits_before
before_next x s = ap (λ k. total k (λ t. length (lane t x))) (add-one s)

pub counts_fit : (x : List ℕ) (i : ℕ) (counts : List ℕ) → Counting x i counts → Codes most_states x → (s : ℕ) → s < most_states → get_or counts s 0 ≤ length x
counts_fit x i counts so_far codes s hs = omega (arith, so_far.each s hs, before_fits most_states x s codes hs)

pub record Beginning (x : List ℕ) (i at : ℕ) (cuts : List ℕ) : Type 0 where
  pub long : length cuts ≡ most_states + 1
  pub first : get_or cuts 0 0 ≡ 0
  pub next : at ≡ exits_before i x
  pub each : (s : ℕ) → s < i → get_or cuts (s + 1) 0 ≡ exits_before s x

pub begin_one : (x : List ℕ) (i at : ℕ) (cuts : List ℕ) → Beginning x i at cuts → (n : ℕ) → i < most_states → n ≡ length (lane i x) → Beginning x (i + 1) (at + n) (set cuts (i + 1) at)
begin_one x i at cuts so_far n h is = record {
  long = length-set cuts (i + 1) at ∙ so_far.long;
  first = get_or-set_other cuts (i + 1) 0 at 0 (λ e. absurd (omega arith)) ∙ so_far.first;
  next = omega (arith, so_far.next, before_next x i);
  each = λ s hs. elim (cases_eq s i) [
    | inl e ↦ subst (λ t. get_or (set cuts (i + 1) at) (t + 1) 0 ≡ exits_before t x) (sym e) (get_or-set_same cuts (i + 1) at 0 (omega (arith, so_far.long)) ∙ so_far.next)
    | inr ne ↦ get_or-set_other cuts (i + 1) (s + 1) at 0 (λ e. ne (omega arith)) ∙ so_far.each s (omega arith)
  ];
}

pub all_begun : (x : List ℕ) (i at : ℕ) (cuts : List ℕ) → Beginning x i at cuts → most_states ≤ i → AllBegun x cuts
all_begun x i at cuts so_far h = record { first = so_far.first; each = λ s hs. so_far.each s (omega arith) }

-- PLACES

part_more : (b e v : ℕ) (exits : List ℕ) → b ≤ e → e < length exits → take (e + 1 - b) (drop b (set exits e v)) ≡ take (e - b) (drop b exits) ++ (v ∷ [])
part_more b e v exits h l =
    let k = e - b in
    let place : e ≡ b + k = omega arith in
    let one : e + 1 - b ≡ k + 1 = omega arith in
    let room : k < length (drop b exits) = omega (arith, length-drop b exits) in
    ap₂ (λ n p. take n (drop b (set exits p v))) one place ∙ ap (take (k + 1)) (drop-set-add b exits k v) ∙ take_more_set (drop b exits) k v room

part_other : (b e p v : ℕ) (exits : List ℕ) → (b ≤ p → e ≤ p) → take (e - b) (drop b (set exits p v)) ≡ take (e - b) (drop b exits)
part_other b e p v exits h = elim (cases_lt p b) [
  | inl lt ↦ ap (take (e - b)) (drop-set-lt b exits p v lt)
  | inr le ↦
      let behind : e ≤ p = h le in
      let place : p ≡ b + (p - b) = omega arith in
      ap (λ q. take (e - b) (drop b (set exits q v))) place ∙ ap (take (e - b)) (drop-set-add b exits (p - b) v) ∙ take-set-le (e - b) (drop b exits) (p - b) v (omega arith)
]

-- what is placed of the exits of the codes before i, and what the rest of the recording has yet to give
pub record Placing (x : List ℕ) (i : ℕ) (cuts exits : List ℕ) : Type 0 where
  pub long : length cuts ≡ most_states + 1
  pub first : get_or cuts 0 0 ≡ 0
  pub begun : (s : ℕ) → s < most_states → exits_before s x ≤ get_or cuts (s + 1) 0
  pub left : (s : ℕ) → s < most_states → get_or cuts (s + 1) 0 + length (lane s (drop i x)) ≡ exits_before s x + length (lane s x)
  pub each : (s : ℕ) → s < most_states → lane s x ≡ take (get_or cuts (s + 1) 0 - exits_before s x) (drop (exits_before s x) exits) ++ lane s (drop i x)

part_none : (b e : ℕ) (exits : List ℕ) → e ≡ b → take (e - b) (drop b exits) ≡ []
part_none b e exits h = let z : e - b ≡ 0 = omega arith in ap (λ n. take n (drop b exits)) z

pub none_placed : (x cuts exits : List ℕ) → length cuts ≡ most_states + 1 → AllBegun x cuts → Placing x 0 cuts exits
none_placed x cuts exits h begun = record {
  long = h;
  first = begun.first;
  begun = λ s hs. omega (arith, begun.each s hs);
  left = λ s hs. ap (λ n. n + length (lane s x)) (begun.each s hs);
  each = λ s hs. sym (ap (λ l. l ++ lane s x) (part_none (exits_before s x) (get_or cuts (s + 1) 0) exits (begun.each s hs)));
}

module _ (x : List ℕ) (i : ℕ) (cuts exits : List ℕ) (so_far : Placing x i cuts exits) (codes : Codes most_states x) where
  -- where the exit of the code at i goes: within its lane
  pub place_found : (c : ℕ) → i + 1 < length x → c ≡ get_or x i 0
      → (c < most_states) × (get_or cuts (c + 1) 0 < exits_before c x + length (lane c x)) × (get_or cuts (c + 1) 0 < length x)
  place_found c h at =
      let here : c < most_states = omega (arith, All-get_or (λ b. b < most_states) x i 0 (omega arith) codes) in
      let inside : get_or cuts (c + 1) 0 < exits_before c x + length (lane c x) = omega (arith, so_far.left c here, ap length (visit x c i h (sym at))) in
      (here, inside, omega (arith, inside, before_fits most_states x c codes here))

  -- the exit of the code at i is placed
  pub place_one : (c v : ℕ) → i + 1 < length x → c ≡ get_or x i 0 → v ≡ get_or x (i + 1) 0 → length x ≤ length exits
      → Placing x (i + 1) (set cuts (c + 1) (get_or cuts (c + 1) 0 + 1)) (set exits (get_or cuts (c + 1) 0) v)
  place_one c v h at next room =
      let p = place_found c h at in
      let here : c < most_states = p.0 in
      let e = get_or cuts (c + 1) 0 in
      let b = exits_before c x in
      let one : lane c (drop i x) ≡ v ∷ lane c (drop (i + 1) x) = visit x c i h (sym at) ∙ ap (λ y. y ∷ lane c (drop (i + 1) x)) (sym next) in
      let now : get_or (set cuts (c + 1) (e + 1)) (c + 1) 0 ≡ e + 1 = get_or-set_same cuts (c + 1) (e + 1) 0 (omega (arith, so_far.long)) in
      let same : (s : ℕ) → (s ≡ c → ⊥) → get_or (set cuts (c + 1) (e + 1)) (s + 1) 0 ≡ get_or cuts (s + 1) 0 =
      λ s ne. get_or-set_other cuts (c + 1) (s + 1) (e + 1) 0 (λ q. ne (omega arith)) in
      let still : (s : ℕ) → (s ≡ c → ⊥) → lane s (drop i x) ≡ lane s (drop (i + 1) x) = λ s ne. pass x s i (omega arith) (λ q. ne (sym q ∙ sym at)) in
      record {
        long = length-set cuts (c + 1) (e + 1) ∙ so_far.long;
        first = get_or-set_other cuts (c + 1) 0 (e + 1) 0 (λ q. absurd (omega arith)) ∙ so_far.first;
        begun = λ s hs. elim (cases_eq s c) [
          | inl q ↦ subst (λ t. exits_before t x ≤ get_or (set cuts (c + 1) (e + 1)) (t + 1) 0) (sym q) (omega (arith, now, so_far.begun c here))
          | inr ne ↦ omega (arith, same s ne, so_far.begun s hs)
        ];
        left = λ s hs. elim (cases_eq s c) [
          | inl q ↦
              subst (λ t. get_or (set cuts (c + 1) (e + 1)) (t + 1) 0 + length (lane t (drop (i + 1) x)) ≡ exits_before t x + length (lane t x)) (sym q)
              (omega (arith, now, so_far.left c here, ap length one))
          | inr ne ↦ omega (arith, same s ne, so_far.left s hs, ap length (still s ne))
        ];
        each = λ s hs. elim (cases_eq s c) [
          | inl q ↦
              let grown : take (get_or (set cuts (c + 1) (e + 1)) (c + 1) 0 - b) (drop b (set exits e v)) ≡ take (e - b) (drop b exits) ++ (v ∷ []) =
              ap (λ n. take (n - b) (drop b (set exits e v))) now ∙ part_more b e v exits (so_far.begun c here) (omega (arith, p.2)) in
              subst (λ t. lane t x ≡ take (get_or (set cuts (c + 1) (e + 1)) (t + 1) 0 - exits_before t x) (drop (exits_before t x) (set exits e v)) ++ lane t (drop (i + 1) x)) (sym q)
              (so_far.each c here ∙ ap (λ l. take (e - b) (drop b exits) ++ l) one ∙ sym (append_assoc (take (e - b) (drop b exits)) (v ∷ []) (lane c (drop (i + 1) x))) ∙ ap (λ l. l ++ lane c (drop (i + 1) x)) (sym grown))
          | inr ne ↦
              let a = exits_before s x in
              let n = get_or cuts (s + 1) 0 in
              let apart : a ≤ e → n ≤ e = λ le. elim (cases_lt s c) [
                | inl lt ↦ omega (arith, before_apart x s c lt, so_far.left s hs, so_far.begun c here)
                | inr ge ↦ (let lt : c < s = omega (arith, ne) in absurd (omega (arith, before_apart x c s lt, p.1)))
              ] in
              let kept : take (get_or (set cuts (c + 1) (e + 1)) (s + 1) 0 - a) (drop a (set exits e v)) ≡ take (n - a) (drop a exits) =
              ap (λ k. take (k - a) (drop a (set exits e v))) (same s ne) ∙ part_other a n e v exits apart in
              so_far.each s hs ∙ ap (λ l. take (n - a) (drop a exits) ++ l) (still s ne) ∙ ap (λ l. l ++ lane s (drop (i + 1) x)) (sym kept)
        ];
      }

  -- the last code has no exit
  pub place_none : i < length x → length x ≤ i + 1 → Placing x (i + 1) cuts exits
  place_none h l = record {
    long = so_far.long;
    first = so_far.first;
    begun = so_far.begun;
    left = λ s hs. ap (λ r. get_or cuts (s + 1) 0 + length r) (sym (at_end x s i h l)) ∙ so_far.left s hs;
    each = λ s hs. so_far.each s hs ∙ ap (λ r. take (get_or cuts (s + 1) 0 - exits_before s x) (drop (exits_before s x) exits) ++ r) (at_end x s i h l);
  }

  module _ (done : length x ≤ i) where
    -- each cut stands where the lane of its state begins
    lane_ends : (s : ℕ) → s < most_states → get_or cuts (s + 1) 0 ≡ exits_before s x + length (lane s x)
    lane_ends s hs = omega (arith, so_far.left s hs, ap (λ r. length (lane s r)) (drop_all i x done))

    lane_begins : (s : ℕ) → s < most_states → get_or cuts s 0 ≡ exits_before s x
    lane_begins zero hs = so_far.first ∙ sym (before_none x)
    lane_begins (suc s) hs = subst (λ t. get_or cuts t 0 ≡ exits_before t x) (add-one s) (lane_ends s (omega arith) ∙ sym (before_next x s))

    pub all_placed : length x ≤ length exits → AllPlaced x cuts exits
    all_placed room = record {
      within = λ s hs. (omega (arith, lane_begins s hs, lane_ends s hs), omega (arith, lane_ends s hs, before_fits most_states x s codes hs));
      each = λ s hs.
          ap (λ b. take (get_or cuts (s + 1) 0 - b) (drop b exits)) (lane_begins s hs)
          ∙ sym (so_far.each s hs ∙ ap (λ r. take (get_or cuts (s + 1) 0 - exits_before s x) (drop (exits_before s x) exits) ++ lane s r) (drop_all i x done)
          ∙ append-nil (take (get_or cuts (s + 1) 0 - exits_before s x) (drop (exits_before s x) exits)));
    }

-- THE LANES AS PARTS

parts_length : (cuts exits : List ℕ) → length (parts cuts exits) ≡ most_states
unfolding parts
parts_length cuts exits = length-map-range_with_len (part cuts exits) 0 most_states

pub parts_each : (cuts exits : List ℕ) (s : ℕ) → s < most_states → get_or (parts cuts exits) s [] ≡ part cuts exits s
unfolding parts
parts_each cuts exits s h = get_or-map-range_with_len (part cuts exits) 0 most_states s s [] h (omega arith)

-- the exits as a list of n has them that held others before
pub parts_filed : (x cuts exits old : List ℕ) (n : ℕ) → AllPlaced x cuts exits → length exits ≡ n → Filed most_states lane x (parts cuts (take n (exits ++ drop (length exits) old)))
parts_filed x cuts exits old n placed long = record {
  keys = parts_length cuts (take n (exits ++ drop (length exits) old));
  each = λ s hs. parts_each cuts (take n (exits ++ drop (length exits) old)) s hs ∙ ap (λ l. part cuts l s) (take_at exits (drop (length exits) old) n long) ∙ placed.each s hs;
}
