-- Bytes that are told, taken from the front and added at the end.
use Rattle.std.proofs.Common.{◌≡◌, ℕ, List, [], ◌++◌, Option, Some, None, refl, sym, ap, ◌∙◌, append_assoc}
use Rattle.std.specs.Io.KnownBytes.{prepend_known, append_known}
use Rattle.std.proofs.lemmas.List.{append-nil}

pub append_known-nil : (known : Option (List ℕ)) → append_known known [] ≡ known
append_known-nil None = refl
append_known-nil (Some xs) = ap (λ (l : List ℕ). Some l) (append-nil xs)

pub append_known-append : (known : Option (List ℕ)) (xs ys : List ℕ) → append_known known (xs ++ ys) ≡ append_known (append_known known xs) ys
append_known-append None xs ys = refl
append_known-append (Some ws) xs ys = ap (λ (l : List ℕ). Some l) (sym (append_assoc ws xs ys))

pub prepend_known-append : (xs ys : List ℕ) (known : Option (List ℕ)) → prepend_known (xs ++ ys) known ≡ prepend_known xs (prepend_known ys known)
prepend_known-append xs ys None = refl
prepend_known-append xs ys (Some ws) = ap (λ (l : List ℕ). Some l) (append_assoc xs ys ws)

-- one read after another, and one write
pub took-more : (old mid new : Option (List ℕ)) (taken piece : List ℕ) → old ≡ prepend_known taken mid → mid ≡ prepend_known piece new → old ≡ prepend_known (taken ++ piece) new
took-more old mid new taken piece one two = one ∙ ap (λ known. prepend_known taken known) two ∙ sym (prepend_known-append taken piece new)

pub told-more : (old mid new : Option (List ℕ)) (written added : List ℕ) → mid ≡ append_known old written → new ≡ append_known mid added → new ≡ append_known old (written ++ added)
told-more old mid new written added one two = two ∙ ap (λ known. append_known known added) one ∙ sym (append_known-append old written added)
