-- A lane without its last exit, and the lane again from other exits. Assumes nothing.
use Rattle.std.specs.Prelude.{◌≡◌, ℕ, ◌-◌, ◌<◌, ◌≤◌, Bool, true, false, cond, List, [], ◌∷◌, ◌++◌, length, take, refl}
use Rattle.std.proofs.Common.{sym, ap, ◌∙◌, arith, length-take}
use Rattle.std.proofs.ByRecursion.{All-push}
use Rattle.classes.specs.Recordings.{Codes, count, final}
use Rattle.extractors.specs.Lanes.{init_from, init}
use Rattle.blum.specs.Lanes.{count_append, empty}
use Rattle.blum.specs.Walks.{final_append}

-- ALL BUT THE LAST, AND THE LAST

init_final : (b : ℕ) (l : List ℕ) → init_from b l ++ (final b l ∷ []) ≡ b ∷ l
init_final b [] = refl
init_final b (c ∷ l) = ap (λ k. b ∷ k) (init_final c l)

init_from_push : (b : ℕ) (k : List ℕ) (c : ℕ) → init_from b (k ++ (c ∷ [])) ≡ b ∷ k
init_from_push b [] c = refl
init_from_push b (d ∷ k) c = ap (λ l. b ∷ l) (init_from_push d k c)

init_push : (k : List ℕ) (c : ℕ) → init (k ++ (c ∷ [])) ≡ k
init_push [] c = refl
init_push (b ∷ k) c = init_from_push b k c

codes_init : (m b : ℕ) (l : List ℕ) → b < m → Codes m l → Codes m (init_from b l)
codes_init m b [] h k = tt
codes_init m b (c ∷ l) h k = (h, codes_init m c l k.0 k.1)

final_below : (m b : ℕ) (l : List ℕ) → b < m → Codes m l → final b l < m
final_below m b [] h k = h
final_below m b (c ∷ l) h k = final_below m c l k.0 k.1

init_from_take : (b : ℕ) (l : List ℕ) → init_from b l ≡ take (length l) (b ∷ l)
init_from_take b [] = refl
init_from_take b (c ∷ l) = ap (λ k. b ∷ k) (init_from_take c l)

pub init_take : (l : List ℕ) → init l ≡ take (length l - 1) l
init_take [] = refl
init_take (b ∷ l) = let e : length l ≡ length (b ∷ l) - 1 = omega arith in init_from_take b l ∙ ap (λ n. take n (b ∷ l)) e

-- A LANE OR ALL BUT ITS LAST EXIT

abbrev pub part : Bool → List ℕ → List ℕ
part whole l = cond whole l (init l)

pub codes_part : (m : ℕ) (whole : Bool) (l : List ℕ) → Codes m l → Codes m (part whole l)
codes_part m true l h = h
codes_part m false [] h = tt
codes_part m false (b ∷ l) h = codes_init m b l h.0 h.1

pub part_short : (whole : Bool) (l : List ℕ) → length (part whole l) ≤ length l
part_short true l = omega arith
part_short false l = omega (arith, ap length (init_take l), length-take (length l - 1) l)

-- the lane l with the exits k in the place of those kept
abbrev pub rejoin : Bool → List ℕ → List ℕ → List ℕ
rejoin true k l = k
rejoin false k [] = []
rejoin false k (b ∷ l) = k ++ (final b l ∷ [])

pub codes_rejoin : (m : ℕ) (whole : Bool) (k l : List ℕ) → Codes m k → Codes m l → Codes m (rejoin whole k l)
codes_rejoin m true k l h i = h
codes_rejoin m false k [] h i = tt
codes_rejoin m false k (b ∷ l) h i = All-push (λ c. c < m) k (final b l) h (final_below m b l i.0 i.1)

pub rejoin_part : (whole : Bool) (l : List ℕ) → rejoin whole (part whole l) l ≡ l
rejoin_part true l = refl
rejoin_part false [] = refl
rejoin_part false (b ∷ l) = init_final b l

pub part_rejoin : (whole : Bool) (k l : List ℕ) → length k ≡ length (part whole l) → part whole (rejoin whole k l) ≡ k
part_rejoin true k l h = refl
part_rejoin false k [] h = sym (empty k h)
part_rejoin false k (b ∷ l) h = init_push k (final b l)

rejoin_push : (k j : List ℕ) (c : ℕ) → rejoin false k (j ++ (c ∷ [])) ≡ k ++ (c ∷ [])
rejoin_push k [] c = refl
rejoin_push k (d ∷ j) c = ap (λ e. k ++ (e ∷ [])) (final_append d j (c ∷ []) (omega arith))

pub rejoin_rejoin : (whole : Bool) (k j l : List ℕ) → rejoin whole k (rejoin whole j l) ≡ rejoin whole k l
rejoin_rejoin true k j l = refl
rejoin_rejoin false k j [] = refl
rejoin_rejoin false k j (b ∷ l) = rejoin_push k j (final b l)

pub count_rejoin : (whole : Bool) (k l : List ℕ) (c : ℕ) → count c k ≡ count c (part whole l) → count c (rejoin whole k l) ≡ count c l
count_rejoin true k l c h = h
count_rejoin false k [] c h = refl
count_rejoin false k (b ∷ l) c h =
    omega (arith, count_append c k (final b l ∷ []), count_append c (init_from b l) (final b l ∷ []), ap (count c) (init_final b l))

pub final_rejoin : (whole : Bool) (k l : List ℕ) (s : ℕ) → whole ≡ false → final s (rejoin whole k l) ≡ final s l
final_rejoin true k l s h = absurd (let z : ◌≡◌ {A = ℕ} 0 1 = cc in omega arith)
final_rejoin false k [] s h = refl
final_rejoin false k (b ∷ l) s h = final_append s k (final b l ∷ []) (omega arith)
