use Rattle.std.proofs.Common.{◌≡◌, ◌≢◌, ℕ, List, [], ◌∷◌, ◌++◌, take, Option, Some, None, IsSomeAnd, refl, sym, ap, subst, inl, inr, ◌∙◌, append_assoc}
use Rattle.std.specs.Option.{option_to_list}
use Rattle.std.proofs.lemmas.Bool.{cases_eq}
use Rattle.std.proofs.lemmas.List.{append-nil}
use Rattle.wire_commands.specs.declared.request.Request.{Request}
use Rattle.wire_commands.specs.Grammar.{Reads}
use Rattle.wire_commands.specs.Stream.{HasNoNewline, Asks, AsksToEnd}
use Rattle.wire_commands.specs.Feed.{room, ReadsFor, TakesByte, TakesEnd, HasGiven, Feeds}
use Rattle.wire_commands.specs.Laws.{FeedsGive}
use Rattle.wire_commands.proofs.Spans.{same_span, second_part_has, both_parts_have}
use Rattle.wire_commands.proofs.GrammarLaws.{same_request}
use Rattle.wire_commands.proofs.Existence.{some_request}

-- no bytes ask for nothing
pub asks_nothing : Asks [] [] []
asks_nothing = (refl, tt)

-- more bytes of a line
pub asks_bytes : (bytes : List ℕ) (requests : List Request) (rest others : List ℕ)
    → Asks bytes requests rest → HasNoNewline others
    → Asks (bytes ++ others) requests (rest ++ others)
asks_bytes bytes [] rest others asks no_newline =
    (ap (λ l. l ++ others) asks.0, both_parts_have (λ b. b ≢ 10) rest others asks.1 no_newline)
asks_bytes bytes (request ∷ requests) rest others (line, more, is, whole, reads, asks) no_newline = (
  line,
  more ++ others,
  ap (λ l. l ++ others) is ∙ append_assoc line (10 ∷ more) others,
  whole,
  reads,
  asks_bytes more requests rest others asks no_newline,
)

-- one more byte of a line
asks_byte : (bytes : List ℕ) (requests : List Request) (rest : List ℕ) (byte : ℕ)
    → Asks bytes requests rest → byte ≢ 10 → Asks (bytes ++ byte ∷ []) requests (rest ++ byte ∷ [])
asks_byte bytes requests rest byte asks no_newline =
    asks_bytes bytes requests rest (byte ∷ []) asks (no_newline, tt)

-- one more newline
pub asks_newline : (bytes : List ℕ) (requests : List Request) (rest : List ℕ) (request : Request)
    → Asks bytes requests rest → Reads rest request
    → Asks (bytes ++ 10 ∷ []) (requests ++ request ∷ []) []
asks_newline bytes [] rest request asks reads =
    (rest, [], ap (λ l. l ++ 10 ∷ []) asks.0, asks.1, reads, asks_nothing)
asks_newline bytes (first ∷ requests) rest request (line, more, is, whole, reads', asks) reads = (
  line,
  more ++ 10 ∷ [],
  ap (λ l. l ++ 10 ∷ []) is ∙ append_assoc line (10 ∷ more) (10 ∷ []),
  whole,
  reads',
  asks_newline more requests rest request asks reads,
)

-- requests and rest are settled by the bytes
pub same_asks : (bytes : List ℕ) (requests others : List Request) (rest more : List ℕ)
    → Asks bytes requests rest → Asks bytes others more → (requests ≡ others) × (rest ≡ more)
same_asks bytes [] [] rest more a b = (refl, sym a.0 ∙ b.0)
same_asks bytes [] (other ∷ others) rest more a b =
    absurd ((second_part_has (λ c. c ≢ 10) b.0 (10 ∷ b.1)
    (subst HasNoNewline (sym a.0 ∙ b.2) a.1)).0 refl)
same_asks bytes (request ∷ requests) [] rest more a b =
    absurd ((second_part_has (λ c. c ≢ 10) a.0 (10 ∷ a.1)
    (subst HasNoNewline (sym b.0 ∙ a.2) b.1)).0 refl)
same_asks bytes (request ∷ requests) (other ∷ others) rest more a b =
    let span =
    same_span (λ c. c ≢ 10) a.0 b.0 (10 ∷ a.1) (10 ∷ b.1) a.3 b.3 (λ h. h refl) (λ h. h refl)
    (sym a.2 ∙ b.2) in
    let first : request ≡ other =
    same_request b.0 request other (subst (λ l. Reads l request) span.0 a.4) b.4 in
    let later : a.1 ≡ b.1 = cc span.1 in
    let tail =
    same_asks b.1 requests others rest more (subst (λ l. Asks l requests rest) later a.5) b.5 in
    (cc (first, tail.0), tail.1)

-- one more byte in front
asks_before : (byte : ℕ) (bytes : List ℕ) (requests : List Request) (rest : List ℕ) → byte ≢ 10
    → Asks bytes requests rest
    → (others : List Request) × (more : List ℕ) × Asks (byte ∷ bytes) others more
asks_before byte bytes [] rest no_newline asks =
    ([], byte ∷ rest, (ap (λ l. byte ∷ l) asks.0, (no_newline, asks.1)))
asks_before byte bytes (request ∷ requests) rest no_newline (line, more, is, whole, reads, asks) =
    let first = some_request (byte ∷ line) in (
      first.0 ∷ requests,
      rest,
      (byte ∷ line, more, ap (λ l. byte ∷ l) is, (no_newline, whole), first.1, asks),
    )

-- all bytes ask for some requests
pub some_asks : (bytes : List ℕ) → (requests : List Request) × (rest : List ℕ)
    × Asks bytes requests rest
some_asks [] = ([], [], asks_nothing)
some_asks (byte ∷ bytes) =
    let after = some_asks bytes in
    elim (cases_eq byte 10) [
      | inl newline ↦
          let empty = some_request [] in (
            empty.0 ∷ after.0,
            after.1,
            ([], bytes, ap (λ b. b ∷ bytes) newline, tt, empty.1, after.2),
          )
      | inr other ↦ asks_before byte bytes after.0 after.1 other after.2
    ]

-- a list of which nothing is kept is empty
nil_from_take : (line : List ℕ) → take room line ≡ [] → line ≡ []
nil_from_take [] none = refl
nil_from_take (byte ∷ line) none = absurd (cc none)

-- a new feed has taken nothing
pub given_nothing : HasGiven [] [] []
given_nothing = ([], refl, asks_nothing)

-- a feed that takes one more byte of a line
given_more : (old : List ℕ) (byte : ℕ) (result : Option Request) (new bytes : List ℕ)
    (requests : List Request)
    → byte ≢ 10 → TakesByte old byte result new → HasGiven old bytes requests
    → HasGiven new (bytes ++ byte ∷ []) (requests ++ option_to_list result)
given_more old byte result new bytes requests other takes (rest, stands, asks) =
    let none = takes.waits other in (
      rest ++ byte ∷ [],
      takes.grows other rest stands,
      rw (none, append-nil requests) (asks_byte bytes requests rest byte asks other),
    )

-- a feed that takes a newline
given_line : (old : List ℕ) (byte : ℕ) (result : Option Request) (new bytes : List ℕ)
    (requests : List Request)
    → byte ≡ 10 → IsSomeAnd result (ReadsFor old) → new ≡ [] → HasGiven old bytes requests
    → HasGiven new (bytes ++ byte ∷ []) (requests ++ option_to_list result)
given_line old byte None new bytes requests newline reads begins given = absurd reads
given_line old byte (Some request) new bytes requests newline reads begins (rest, stands, asks) =
    ([], begins, rw newline (asks_newline bytes requests rest request asks (reads rest stands)))

-- a feed that takes one more byte
pub given_byte : (old : List ℕ) (byte : ℕ) (result : Option Request) (new bytes : List ℕ)
    (requests : List Request)
    → TakesByte old byte result new → HasGiven old bytes requests
    → HasGiven new (bytes ++ byte ∷ []) (requests ++ option_to_list result)
given_byte old byte result new bytes requests takes given =
    elim (cases_eq byte 10) [
      | inl newline ↦
          given_line old byte result new bytes requests newline (takes.reads newline)
          (takes.begins newline) given
      | inr other ↦ given_more old byte result new bytes requests other takes given
    ]

-- the end, where something is kept
given_last : (old : List ℕ) (result : Option Request) (bytes : List ℕ) (requests : List Request)
    → old ≢ [] → IsSomeAnd result (ReadsFor old) → HasGiven old bytes requests
    → AsksToEnd bytes (requests ++ option_to_list result)
given_last old None bytes requests some reads given = absurd reads
given_last old (Some last) bytes requests some reads (rest, stands, asks) =
    inr (
      requests,
      last,
      rest,
      refl,
      asks,
      λ none. some (stands ∙ ap (take room) none),
      reads rest stands,
    )

-- the end, where nothing is kept
given_all : (old : List ℕ) (result : Option Request) (bytes : List ℕ) (requests : List Request)
    → old ≡ [] → result ≡ None → HasGiven old bytes requests
    → AsksToEnd bytes (requests ++ option_to_list result)
given_all old result bytes requests none no_request (rest, stands, asks) =
    let empty : rest ≡ [] = nil_from_take rest (sym stands ∙ none) in
    inl (rw (no_request, append-nil requests) (subst (Asks bytes requests) empty asks))

-- a feed that takes the end
pub given_end : (old : List ℕ) (result : Option Request) (new bytes : List ℕ)
    (requests : List Request)
    → TakesEnd old result new → HasGiven old bytes requests
    → AsksToEnd bytes (requests ++ option_to_list result)
given_end [] result new bytes requests takes given =
    given_all [] result bytes requests refl (takes.nothing refl) given
given_end (byte ∷ kept) result new bytes requests takes given =
    let some : byte ∷ kept ≢ [] = λ e. absurd (cc e) in
    given_last (byte ∷ kept) result bytes requests some (takes.reads some) given

-- a feed that takes more bytes, one by one
pub given_bytes : (kept more last bytes : List ℕ) (requests others : List Request)
    → Feeds kept more others last
    → HasGiven kept bytes requests → HasGiven last (bytes ++ more) (requests ++ others)
given_bytes kept [] last bytes requests others feeds given =
    rw (feeds.0, append-nil requests, append-nil bytes)
    (subst (λ k. HasGiven k bytes requests) feeds.1 given)
given_bytes kept (byte ∷ more) last bytes requests others (result, next, later, takes, is, feeds)
    given =
    let one = given_byte kept byte result next bytes requests takes given in
    let all =
    given_bytes next more last (bytes ++ byte ∷ []) (requests ++ option_to_list result) later
    feeds one in
    rw is (
    subst (HasGiven last (bytes ++ byte ∷ more))
    (append_assoc requests (option_to_list result) later)
    (subst (λ b. HasGiven last b (requests ++ option_to_list result ++ later))
    (append_assoc bytes (byte ∷ []) more) all))

-- a new feed gives what its bytes ask for
pub feeds_ask : (bytes : List ℕ) (requests : List Request) (last : List ℕ)
    → Feeds [] bytes requests last
    → FeedsGive bytes requests last
feeds_ask bytes requests last feeds =
    let given = given_bytes [] bytes last [] [] requests feeds given_nothing in
    record {
      asked = given;
      at_end =
          λ result new takes. given_end last result new bytes requests takes given;
    }
