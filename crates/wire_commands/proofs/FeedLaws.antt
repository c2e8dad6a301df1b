use Rattle.std.proofs.Common.{◌≡◌, ◌≢◌, ℕ, zero, suc, ◌+◌, ◌-◌, ◌<◌, ◌≤◌, List, [], ◌∷◌, ◌++◌, length, take, set, None, refl, sym, ap, subst, inl, inr, ◌∙◌, arith}
use Rattle.std.proofs.lemmas.Bool.{cases_lt}
use Rattle.std.proofs.lemmas.List.{length-take, length-take-le, length_push, take_all, take_more_set, take-append-le}
use Rattle.wire_commands.specs.declared.request.Request.{Request}
use Rattle.wire_commands.specs.declared.request.Request.TheVariants.{Bad}
use Rattle.wire_commands.specs.declared.request.Reason.TheVariants.{Long}
use Rattle.wire_commands.specs.Grammar.{longest, Reads}
use Rattle.wire_commands.specs.Feed.{room, StandsFor, ReadsFor, TakesByte}
use Rattle.wire_commands.proofs.GrammarLaws.{same_request}
use Rattle.wire_commands.proofs.ReadingLaws.{long_line}
use Rattle.wire_commands.proofs.Existence.{some_line}

-- a line of more bytes than are allowed with a return is too long, whatever its bytes
pub reads_long : (whole : List ℕ) → longest + 1 < length whole → Reads whole (Bad Long)
reads_long whole long =
    let dropped = some_line whole in
    let counted : longest < length dropped.0 =
    elim dropped.1 [
      | inl ends ↦ omega (arith, ap length ends, length_push dropped.0 13)
      | inr none ↦ omega (arith, ap length none.0)
    ] in
    record { line = dropped.0; dropped = dropped.1; is_request = long_line dropped.0 counted }

-- a line of which all is kept is kept as it is
pub kept_whole : (kept line : List ℕ) → length kept < room → StandsFor kept line → kept ≡ line
kept_whole kept line some stands =
    let short : length line ≤ room = omega (arith, ap length stands, length-take room line) in
    stands ∙ take_all room line short

-- what is kept of a line reads as the line does
pub kept_reads : (kept : List ℕ) (request : Request) → Reads kept request → ReadsFor kept request
kept_reads kept request reads line stands =
    elim (cases_lt room (length line)) [
      | inl longer ↦
          let kept_long : longest + 1 < length kept =
          omega (arith, ap length stands, length-take-le room line (omega arith)) in
          let bad : Bad Long ≡ request =
          same_request kept (Bad Long) request (reads_long kept kept_long) reads in
          subst (Reads line) bad (reads_long line (omega arith))
      | inr short ↦ subst (λ l. Reads l request) (stands ∙ take_all room line short) reads
    ]

-- a byte that is kept
pub stands_for_more : (kept line : List ℕ) (byte : ℕ) → length kept < room → StandsFor kept line
    → StandsFor (kept ++ byte ∷ []) (line ++ byte ∷ [])
stands_for_more kept line byte some stands =
    let same = kept_whole kept line some stands in
    let short : length (line ++ byte ∷ []) ≤ room =
    omega (arith, ap length same, length_push line byte) in
    ap (λ l. l ++ byte ∷ []) same ∙ sym (take_all room (line ++ byte ∷ []) short)

-- a byte for which there is no room
pub stands_for_full : (kept line : List ℕ) (byte : ℕ) → room ≤ length kept → StandsFor kept line
    → StandsFor kept (line ++ byte ∷ [])
stands_for_full kept line byte full stands =
    let long : room ≤ length line = omega (arith, ap length stands, length-take room line) in
    stands ∙ sym (take-append-le room line (byte ∷ []) long)

-- a byte of a line that there is room for
pub keeps_byte : (kept old : List ℕ) (len byte : ℕ) → take len kept ≡ old → length kept ≡ room
    → len < room → byte ≢ 10
    → TakesByte old byte None (take (len + 1) (set kept len byte))
keeps_byte kept old len byte is full inside no_newline =
    let new_is : take (len + 1) (set kept len byte) ≡ old ++ byte ∷ [] =
    take_more_set kept len byte (omega arith) ∙ ap (λ l. l ++ byte ∷ []) is in
    let some : length old < room =
    omega (arith, ap length is, length-take-le len kept (omega arith)) in
    record {
      reads = λ newline. absurd (no_newline newline);
      begins = λ newline. absurd (no_newline newline);
      waits = λ _. refl;
      grows = λ _ line stands. new_is ∙ stands_for_more old line byte some stands;
    }

-- a byte of a line that there is no room for
pub forgets_byte : (kept old : List ℕ) (len byte : ℕ) → take len kept ≡ old → length kept ≡ room
    → room ≤ len → byte ≢ 10
    → TakesByte old byte None old
forgets_byte kept old len byte is full past no_newline =
    let all : room ≤ length old = omega (arith, ap length is, length-take len kept) in
    record {
      reads = λ newline. absurd (no_newline newline);
      begins = λ newline. absurd (no_newline newline);
      waits = λ _. refl;
      grows = λ _ line stands. stands_for_full old line byte all stands;
    }

-- what comes behind a front of a list has the same front as what comes behind the list
take_behind_take : (n : ℕ) (xs ys : List ℕ) → take n (take n xs ++ ys) ≡ take n (xs ++ ys)
take_behind_take zero xs ys = refl
take_behind_take (suc n) [] ys = refl
take_behind_take (suc n) (x ∷ xs) ys = ap (λ l. x ∷ l) (take_behind_take n xs ys)

-- bytes that are kept, as many as there is room for
pub stands_for_bytes : (kept line bytes : List ℕ) → StandsFor kept line
    → StandsFor (take room (kept ++ bytes)) (line ++ bytes)
stands_for_bytes kept line bytes stands =
    ap (λ l. take room (l ++ bytes)) stands ∙ take_behind_take room line bytes

-- the front of a list behind another one
pub take_behind : (n : ℕ) (xs ys : List ℕ) → length xs ≤ n → take n (xs ++ ys) ≡ xs ++ take (n - length xs) ys
take_behind n [] ys within = ap (λ k. take k ys) (omega arith)
take_behind zero (x ∷ xs) ys within = absurd (omega arith)
take_behind (suc n) (x ∷ xs) ys within =
    ap (λ l. x ∷ l) (take_behind n xs ys (omega arith) ∙ ap (λ k. xs ++ take k ys) (omega arith))
