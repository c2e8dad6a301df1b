-- What is given to a writer, and what waits for it.
use Rattle.std.proofs.Common.{◌≡◌, ℕ, ◌+◌, List, [], ◌++◌, Result, Ok, Err, is_err, false, take, drop, refl, sym, ap, subst, ◌∙◌, take-append-drop}
use Rattle.std.proofs.KnownBytes.{Appends-nil}
use Rattle.std.specs.Io.KnownBytes.{Appends}
use Rattle.std.proofs.lemmas.List.{append-nil, drop-drop}
use Rattle.standard_ends.specs.Real.{OutputState, Gives, FlushesStream}

-- nothing was given
pub gives_nothing : (old : OutputState) → Gives [] old old
gives_nothing old = record {
  front = [];
  rest = old.waiting;
  split = refl;
  given = Appends-nil old.bytes;
  waits = sym (append-nil old.waiting);
}

-- a flush that went well gave all
pub gives_all : {E : Type 0} (r : Result (Unit {0}) E) (old new : OutputState) → FlushesStream r old new
    → is_err r ≡ false → Gives [] old new
gives_all (Ok done) old new flushes well = record {
  front = old.waiting;
  rest = [];
  split = sym (append-nil old.waiting);
  given = flushes.0;
  waits = flushes.1;
}
gives_all (Err e) old new flushes well = cc

-- bytes came behind those that wait
pub gives_then : (old mid new : OutputState) (came : List ℕ) → Gives [] old mid → new.bytes ≡ mid.bytes
    → new.waiting ≡ mid.waiting ++ came → Gives came old new
gives_then old mid new came gives same waits = record {
  front = gives.front;
  rest = gives.rest;
  split = gives.split;
  given = subst (λ bytes. Appends old.bytes bytes gives.front) (sym same) gives.given;
  waits = waits ∙ ap (λ (l : List ℕ). l ++ came) (gives.waits ∙ append-nil gives.rest);
}

-- the first of the gathered bytes had been given, and so many more were
pub gives_more : (was old new : OutputState) (gathered : List ℕ) (given count : ℕ) → was ≡ old
    → was.waiting ≡ drop given gathered → new.waiting ≡ drop (given + count) gathered
    → Appends was.bytes new.bytes (take count (drop given gathered)) → Gives [] old new
gives_more was old new gathered given count same waited waits gave =
    subst (λ s. Gives [] s new) same (record {
      front = take count (drop given gathered);
      rest = drop count (drop given gathered);
      split = waited ∙ sym (take-append-drop count (drop given gathered));
      given = gave;
      waits = waits ∙ sym (drop-drop count given gathered) ∙ sym (append-nil _);
    })
