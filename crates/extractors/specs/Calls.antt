-- What a call of an extractor leaves: when it refuses, and what tray and answer are.
--   first_stray   the index of the first code not below the size; the length where there is none
--   due           the fault that size, recording and tray call for, in the order of the rules
--   RefusedAs     an answer Err: the fault that is due; where none is due, want of memory and nothing else
--   Written       bits at the front of a tray, the rest as it was
--   Extracted     what a call leaves
--   Filled        bits at the front of scratch memory, or want of memory, after which the scratch is given up unread
--   Fills         what leaves scratch memory of n bytes so, whatever stands there before
--   Judged        the answer of what judges by a rule: the fault that is due, and no other
use Rattle.std.specs.Prelude.{◌≡◌, ℕ, suc, ◌*◌, Bool, cond, List, [], ◌∷◌, ◌++◌, length, drop, Some, None, Ok, Err, Option, Result, nat_lt}
use Rattle.classes.specs.Recordings.{width}
use Rattle.extractors.specs.declared.fault.ExtractorFault.{ExtractorFault}
use Rattle.extractors.specs.declared.fault.ExtractorFault.TheVariants.{Size, Length, Code, Tray, Memory}
use Rattle.extractors.specs.Bits.{bytes}

abbrev pub first_stray : ℕ → List ℕ → ℕ
first_stray m [] = 0
first_stray m (c ∷ x) = cond (nat_lt c m) (suc (first_stray m x)) 0

-- the fault of a recording x of size m and a tray of k bytes, the size being one
abbrev pub due_sized : ℕ → List ℕ → ℕ → Option ExtractorFault
due_sized m x k =
    cond (nat_lt 4096 (length x)) (Some (Length (length x)))
    (cond (nat_lt (first_stray m x) (length x)) (Some (Code (first_stray m x)))
    (cond (nat_lt k (width m * length x)) (Some (Tray k))
    None))

abbrev pub due : ℕ → List ℕ → ℕ → Option ExtractorFault
due m x k = cond (nat_lt m 2) (Some (Size m)) (cond (nat_lt 16 m) (Some (Size m)) (due_sized m x k))

abbrev pub RefusedAs : Option ExtractorFault → ExtractorFault → Type 0
RefusedAs (Some d) e = e ≡ d
RefusedAs None e = e ≡ Memory

-- s stands at the front of the tray, a byte for each bit, and n is the yield
abbrev pub Written : List Bool → List ℕ → ℕ → List ℕ → Type 0
Written s tray n tray' = (n ≡ length s) × (tray' ≡ bytes s ++ drop (length s) tray)

abbrev pub Extracted : (List ℕ → List Bool) → ℕ → List ℕ → List ℕ → Result ℕ ExtractorFault → List ℕ → Type 0
Extracted f m x tray (Ok n) tray' = (due m x (length tray) ≡ None) × Written (f x) tray n tray'
Extracted f m x tray (Err e) tray' = RefusedAs (due m x (length tray)) e × (tray' ≡ tray)

abbrev pub Filled : List Bool → List ℕ → Result ℕ ExtractorFault → List ℕ → Type 0
Filled s out (Ok n) out' = Written s out n out'
Filled s out (Err e) out' = e ≡ Memory

-- what fills n bytes of scratch, whatever stands there, with the bits s
abbrev pub Fills : ℕ → List Bool → (List ℕ → Result ℕ ExtractorFault → List ℕ → Type 0) → Type 0
Fills n s Left = (out : List ℕ) (r : Result ℕ ExtractorFault) (out' : List ℕ) → length out ≡ n → Left out r out' → Filled s out r out'

abbrev pub Judged : {X F : Type 0} → Option F → Result X F → Type 0
Judged d (Ok x) = d ≡ None
Judged d (Err e) = d ≡ Some e
