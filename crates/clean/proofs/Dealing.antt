-- Keys dealt one after the other make a dealing.
use Rattle.std.proofs.Common.{◌≡◌, ℕ, ◌*◌, ◌<◌, ◌≤◌, true, false, ◌⊎◌, List, [], ◌∷◌, ◌++◌, length, Ok, Err, Result, sym, ap, ◌∙◌, subst, inl, inr, append_assoc, append-nil}
use Rattle.std.specs.Result.{is_ok}
use Rattle.std.proofs.lemmas.Bool.{cases_lt}
use Rattle.well.specs.declared.fault.WellFault.{WellFault}
use Rattle.well.specs.State.{State}
use Rattle.clean.specs.Lines.{key_line}
use Rattle.clean.specs.Keys.{Enough, NextKey, Dealt, key_lines, DealtOnto}

-- keys dealt so far, from s to s', their lines added to the text: every dealing from s' goes on with them
pub record Sofar (k : ℕ) (s : State) (text text' : List ℕ) (s' : State) : Type 0 where
  pub keys : List (List ℕ)
  pub goes_on : (more : List (List ℕ)) (s'' : State) → Dealt k s' more s'' → Dealt k s (keys ++ more) s''
  pub lines : text' ≡ text ++ key_lines keys

key_lines_more : (keys : List (List ℕ)) (key : List ℕ) → key_lines (keys ++ (key ∷ [])) ≡ key_lines keys ++ key_line key
key_lines_more [] key = append-nil (key_line key)
key_lines_more (first ∷ keys) key = ap (λ (l : List ℕ). key_line first ++ l) (key_lines_more keys key) ∙ sym (append_assoc (key_line first) (key_lines keys) (key_line key))

-- key is the buffer before the draw, which is as long as a key
pub one_more : (k : ℕ) (s s' s'' : State) (text text' text'' key key' : List ℕ) (r : Result (Unit {0}) WellFault)
    → true ≡ is_ok r → length key ≡ k → NextKey s' key r key' s'' → text'' ≡ text' ++ key_line key' → Sofar k s text text' s' → Sofar k s text text'' s''
one_more k s s' s'' text text' text'' key key' (Err _) ok _ _ _ _ = cc
one_more k s s' s'' text text' text'' key key' (Ok _) _ whole next added old =
    let dealt-now = rw whole at next in
    record {
      keys = old.keys ++ (key' ∷ []);
      goes_on = λ more s''' d.
          subst (λ (ks : List (List ℕ)). Dealt k s ks s''') (sym (append_assoc old.keys (key' ∷ []) more))
          (old.goes_on (key' ∷ more) s''' (dealt-now.0.2, dealt-now.1, subst (λ (t : State). Dealt k t more s''') dealt-now.2 d));
      lines = added ∙ ap (λ (l : List ℕ). l ++ key_line key') old.lines ∙ append_assoc text (key_lines old.keys) (key_line key') ∙ ap (λ (l : List ℕ). text ++ l) (sym (key_lines_more old.keys key'));
    }

few_held : (s : State) (k : ℕ) → 1 ≤ k → k ≤ 32 → (Enough s k → ⊥) → length s.queue < 8 * k
few_held s k some few none = at (cases_lt (length s.queue) (8 * k))
  where
    at : (length s.queue < 8 * k) ⊎ (8 * k ≤ length s.queue) → length s.queue < 8 * k
    at (inl h) = h
    at (inr h) = elim (none (some, few, h)) [ ]

-- no key more is dealt
pub all_dealt : (k : ℕ) (s s' s'' : State) (text text' key key' : List ℕ) (r : Result (Unit {0}) WellFault)
    → false ≡ is_ok r → length key ≡ k → 1 ≤ k → k ≤ 32 → NextKey s' key r key' s'' → Sofar k s text text' s' → DealtOnto k s text text' s''
all_dealt k s s' s'' text text' key key' (Ok _) refused _ _ _ _ _ = cc
all_dealt k s s' s'' text text' key key' (Err _) _ whole some few none old =
    let held = few_held s' k some few (rw whole at none.0) in
    record {
      keys = old.keys;
      dealt_keys = subst (λ (ks : List (List ℕ)). Dealt k s ks s'') (append-nil old.keys) (old.goes_on [] s'' (held, none.2));
      lines = old.lines;
    }
