-- Nodes and levels as the loops meet them: the nodes of a level code by code, a level row by row, and the room that they take. Assumes nothing.
use Rattle.std.proofs.Common.{◌≡◌, ℕ, zero, suc, ◌+◌, ◌-◌, ◌*◌, ◌^◌, ◌<◌, ◌≤◌, Bool, true, false, cond, eqb, ltb, List, [], ◌∷◌, ◌++◌, append-nil, map, length, get_or, take, drop, filter, sym, refl, ap, ap₂, ◌∙◌, subst, mul-le-mul_right, suc-mul, arith, length-take, mul-zero, shr_lt}
use borrow.Rule.Slice.PartMut.{put_mid}
use Rattle.std.specs.List.{All, sum_by}
use Rattle.std.proofs.ByRecursion.{All-get_or, All-map}
use Rattle.std.proofs.lemmas.List.{take_all, take_more, nil_from_length}
use Rattle.std.proofs.lemmas.List.Sums.{sum_by-append, sum_by-take-le}
use Rattle.std.proofs.lemmas.List.Elements.{All-from_get_or}
use Rattle.std.proofs.lemmas.Bool.Decides.{nat_tests}
use Rattle.classes.specs.Recordings.{Codes, Recording, Sized, width}
use Rattle.classes.specs.Evenness.{Even}
use Rattle.classes.proofs.Yields.{yield_bound}
use Rattle.classes.proofs.Counts.{all_of}
use Rattle.extractors.specs.Calls.{Written}
use Rattle.extractors.specs.Bits.{gather}
use Rattle.extractors.specs.Rows.{Filed}
use Rattle.extractors.proofs.Gathers.{gather_same}
use Rattle.extractors.proofs.Writing.{join, yield_fits}
use Rattle.split.specs.SplitRule.{prefix, next_bit, node, level, split}
use Rattle.split.specs.SplitEven.{split_even}

-- THE NODES OF ONE LEVEL, CODE BY CODE

-- a code in w bits has a prefix in d bits
prefix_below : (w d c : ℕ) → d ≤ w → c < 2 ^ w → prefix w d c < 2 ^ d
prefix_below w d c h l = let e : w ≡ d + (w - d) = omega arith in shr_lt d (w - d) (subst (λ v. c < 2 ^ v) e l)

module _ (w d : ℕ) (x : List ℕ) (i : ℕ) (h : i < length x) where
  abbrev code : ℕ
  code = get_or x i 0

  pub lead_below : d < w → Codes (2 ^ w) x → prefix w d code < 2 ^ d
  lead_below deep codes = prefix_below w d code (omega arith) (All-get_or (λ c. c < 2 ^ w) x i 0 h codes)

-- HOW MANY CODES THE NODES OF ONE LEVEL TAKE

abbrev pub taken : ℕ → ℕ → ℕ → List ℕ → ℕ
taken w d zero x = 0
taken w d (suc n) x = taken w d n x + length (node w d n x)

taken_none : (w d n : ℕ) → taken w d n [] ≡ 0
taken_none w d zero = refl
taken_none w d (suc n) = omega (arith, taken_none w d n)

-- a code is in one node of a level
taken_one : (w d n c : ℕ) (x : List ℕ) → taken w d n (c ∷ x) ≡ taken w d n x + cond (ltb (prefix w d c) n) 1 0
taken_one w d zero c x = grind (arith, nat_tests)
taken_one w d (suc n) c x = at (prefix w d c) (taken_one w d n c x) (one_more (eqb (prefix w d c) n))
  where
    own : List ℕ
    own = filter (λ a. eqb (prefix w d a) n) x

    one_more : (b : Bool) → length (map (next_bit w d) (cond b (c ∷ own) own)) ≡ length (node w d n x) + cond b 1 0
    one_more true = omega arith
    one_more false = omega arith

    at : (p : ℕ) → taken w d n (c ∷ x) ≡ taken w d n x + cond (ltb p n) 1 0
        → length (map (next_bit w d) (cond (eqb p n) (c ∷ own) own)) ≡ length (node w d n x) + cond (eqb p n) 1 0
        → taken w d n (c ∷ x) + length (map (next_bit w d) (cond (eqb p n) (c ∷ own) own)) ≡ taken w d n x + length (node w d n x) + cond (ltb p (suc n)) 1 0
    at p h k =
        let i : cond (ltb p n) 1 0 + cond (eqb p n) 1 0 ≡ cond (ltb p (suc n)) 1 0 = grind (arith, nat_tests) in
        omega arith

pub taken_le : (w d n : ℕ) (x : List ℕ) → taken w d n x ≤ length x
taken_le w d n [] = omega (arith, taken_none w d n)
taken_le w d n (c ∷ x) = omega (arith, taken_one w d n c x, taken_le w d n x, at_most (ltb (prefix w d c) n))
  where
    at_most : (b : Bool) → cond b 1 0 ≤ 1
    at_most true = omega arith
    at_most false = omega arith

-- a node is a recording of coins
pub node_recorded : (w d p : ℕ) (x : List ℕ) → length x ≤ 4096 → Recording 2 (node w d p x)
node_recorded w d p x few =
    let own = filter (λ c. eqb (prefix w d c) p) x in (
      All-map (λ c. c < 2) (next_bit w d) own (all_of (λ c. next_bit w d c < 2) (λ c. omega arith) own),
      omega (arith, taken_le w d (suc p) x),
    )

-- ROWS OF COINS

-- the codes in the rows before p, and those in the row p
pub rows_more : (rows : List (List ℕ)) (p : ℕ) → p < length rows → sum_by length (take (p + 1) rows) ≡ sum_by length (take p rows) + length (get_or rows p [])
rows_more rows p h = ap (sum_by length) (take_more rows p [] h) ∙ sum_by-append length (take p rows) (get_or rows p [] ∷ []) ∙ one
  where
    one : sum_by length (take p rows) + sum_by length (get_or rows p [] ∷ []) ≡ sum_by length (take p rows) + length (get_or rows p [])
    one = omega arith

-- the row p has room behind the bits of the rows before it
pub row_room : (rows : List (List ℕ)) (p at : ℕ) → p < length rows → at ≤ sum_by length (take p rows) → at + length (get_or rows p []) ≤ sum_by length rows
row_room rows p at h l = omega (arith, rows_more rows p h, sum_by-take-le length rows (p + 1))

module _ (w d : ℕ) (x : List ℕ) (nodes : List (List ℕ)) (filed : Filed (2 ^ d) (node w d) x nodes) where
  nodes_taken : (n : ℕ) → n ≤ 2 ^ d → sum_by length (take n nodes) ≡ taken w d n x
  nodes_taken zero h = refl
  nodes_taken (suc n) h =
      let e : suc n ≡ n + 1 = omega arith in
      ap (λ k. sum_by length (take k nodes)) e ∙ rows_more nodes n (omega (arith, filed.keys))
      ∙ ap₂ ◌+◌ (nodes_taken n (omega arith)) (ap length (filed.each n (omega arith)))

  -- the nodes of a level have no more codes than the recording
  pub nodes_fit : sum_by length nodes ≤ length x
  nodes_fit =
      let all : take (2 ^ d) nodes ≡ nodes = take_all (2 ^ d) nodes (omega (arith, filed.keys)) in
      omega (arith, ap (sum_by length) all, nodes_taken (2 ^ d) (omega arith), taken_le w d (2 ^ d) x)

  pub nodes_recorded : length x ≤ 4096 → All (Recording 2) nodes
  nodes_recorded few =
      All-from_get_or (Recording 2) nodes [] (λ p h. subst (Recording 2) (sym (filed.each p (omega (arith, filed.keys)))) (node_recorded w d p x few))

  pub nodes_level : (f : List ℕ → List Bool) → gather (length nodes) (λ p. f (get_or nodes p [])) ≡ level w d f x
  nodes_level f = ap (λ n. gather n (λ p. f (get_or nodes p []))) filed.keys ∙ gather_same (2 ^ d) (λ p. f (get_or nodes p [])) (λ p. f (node w d p x)) (λ p h. ap f (filed.each p h))

-- BITS PART BY PART

-- one more part gathered behind the others
pub gathered : (g : ℕ → List Bool) (k : ℕ) (t₀ t₁ part : List ℕ) (n₁ n₂ q : ℕ) → Written (gather k g) t₀ n₁ t₁ → Written (g k) (take q (drop n₁ t₁)) n₂ part → length part ≡ length (take q (drop n₁ t₁)) → Written (gather (k + 1) g) t₀ (n₁ + n₂) (put_mid n₁ q t₁ part)
gathered g k t₀ t₁ part n₁ n₂ q w₁ w₂ kept =
    let e : suc k ≡ k + 1 = omega arith in
    subst (λ j. Written (gather j g) t₀ (n₁ + n₂) (put_mid n₁ q t₁ part)) e (join (gather k g) (g k) t₀ t₁ part n₁ n₂ q w₁ w₂ kept)

-- a part gives no more bits than it has room
pub part_fits : (s : List Bool) (t part : List ℕ) (n₁ n₂ k : ℕ) → Written s (take (n₁ + k - n₁) (drop n₁ t)) n₂ part → length part ≡ length (take (n₁ + k - n₁) (drop n₁ t)) → n₂ ≤ k
part_fits s t part n₁ n₂ k w kept = omega (arith, yield_fits s (take (n₁ + k - n₁) (drop n₁ t)) part n₂ w kept, length-take (n₁ + k - n₁) (drop n₁ t))

-- the room of one level more, of w levels
pub level_room : (d w n : ℕ) → d < w → w ≤ 4 → (d * n + n ≤ w * n) × (w * n ≤ 4 * n)
level_room d w n h k = (subst (λ z. z ≤ w * n) (suc-mul d n) (mul-le-mul_right n h), mul-le-mul_right n k)

-- no coins give no bits, and neither does a row without coins
coins_none : (f : List ℕ → List Bool) → Even 2 f → (x : List ℕ) → Recording 2 x → length x ≡ 0 → f x ≡ []
coins_none f even x rec e = nil_from_length (f x) (omega (arith, yield_bound 2 (omega arith, omega arith) f even x rec))

pub none_more : (f : List ℕ → List Bool) → Even 2 f → (rows : List (List ℕ)) (p : ℕ) → Recording 2 (get_or rows p []) → length (get_or rows p []) ≡ 0
    → gather (p + 1) (λ k. f (get_or rows k [])) ≡ gather p (λ k. f (get_or rows k []))
none_more f even rows p rec e =
    let g : ℕ → List Bool = λ k. f (get_or rows k []) in
    let n : p + 1 ≡ suc p = omega arith in
    ap (λ k. gather k g) n ∙ ap (λ z. gather p g ++ z) (coins_none f even (get_or rows p []) rec e) ∙ append-nil (gather p g)

-- where there are no codes no bits are given
pub filled_none : (m : ℕ) → Sized m → (f : List ℕ → List Bool) → Even 2 f → (x : List ℕ) → Recording m x → length x ≡ 0 → (out : List ℕ) → Written (split (width m) f x) out 0 out
filled_none m sized f even x rec e out =
    let few = yield_bound m sized (split (width m) f) (split_even m f sized even) x rec in
    let none : length (split (width m) f x) ≡ 0 = omega (arith, few, ap (λ n. width m * n) e, mul-zero (width m)) in
    subst (λ s. Written s out 0 out) (sym (nil_from_length (split (width m) f x) none)) (refl, refl)
