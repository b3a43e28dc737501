-- Rows as a loop that reads a recording fills them. Assumes nothing.
use Rattle.std.proofs.Common.{◌≡◌, ℕ, ◌+◌, ◌<◌, List, [], ◌∷◌, ◌++◌, length, get_or, drop, set, sym, ap, ◌∙◌, subst, inl, inr, append_assoc, arith, length-set}
use Rattle.std.proofs.lemmas.List.{get_or-set_same, get_or-set_other}
use Rattle.std.proofs.lemmas.Bool.{cases_eq}

-- what is filed of the codes before i, and what the rest of the recording has yet to give
pub record Filing (m : ℕ) (part : ℕ → List ℕ → List ℕ) (x : List ℕ) (i : ℕ) (rows : List (List ℕ)) : Type 0 where
  pub keys : length rows ≡ m
  pub each : (s : ℕ) → s < m → part s x ≡ get_or rows s [] ++ part s (drop i x)

module _ (m : ℕ) (part : ℕ → List ℕ → List ℕ) (x : List ℕ) (i : ℕ) (rows : List (List ℕ)) (so_far : Filing m part x i rows) where
  -- the code at i gives v to part c, and nothing to any other
  pub file_one : (c v : ℕ) → c < m → part c (drop i x) ≡ v ∷ part c (drop (i + 1) x) → ((s : ℕ) → (s ≡ c → ⊥) → part s (drop i x) ≡ part s (drop (i + 1) x))
      → (rows' : List (List ℕ)) → rows' ≡ set rows c (get_or rows c [] ++ (v ∷ [])) → Filing m part x (i + 1) rows'
  file_one c v hc one others rows' is = record {
    keys = ap length is ∙ length-set rows c (get_or rows c [] ++ (v ∷ [])) ∙ so_far.keys;
    each = λ s hs.
        elim (cases_eq s c) [
          | inl e ↦
              let grown : get_or rows' c [] ≡ get_or rows c [] ++ (v ∷ []) = ap (λ r. get_or r c []) is ∙ get_or-set_same rows c (get_or rows c [] ++ (v ∷ [])) [] (omega (arith, so_far.keys)) in
              subst (λ t. part t x ≡ get_or rows' t [] ++ part t (drop (i + 1) x)) (sym e)
              (so_far.each c hc ∙ ap (λ l. get_or rows c [] ++ l) one ∙ sym (append_assoc (get_or rows c []) (v ∷ []) (part c (drop (i + 1) x))) ∙ ap (λ l. l ++ part c (drop (i + 1) x)) (sym grown))
          | inr ne ↦
              let same : get_or rows' s [] ≡ get_or rows s [] = ap (λ r. get_or r s []) is ∙ get_or-set_other rows c s (get_or rows c [] ++ (v ∷ [])) [] ne in
              so_far.each s hs ∙ ap (λ l. get_or rows s [] ++ l) (others s ne) ∙ ap (λ l. l ++ part s (drop (i + 1) x)) (sym same)
        ];
  }

  -- the code at i gives nothing
  pub file_none : ((s : ℕ) → part s (drop i x) ≡ part s (drop (i + 1) x)) → Filing m part x (i + 1) rows
  file_none none = record { keys = so_far.keys; each = λ s hs. so_far.each s hs ∙ ap (λ l. get_or rows s [] ++ l) (none s) }
