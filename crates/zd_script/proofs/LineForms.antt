-- The six forms of a line.
use Rattle.std.proofs.Common.{◌≡◌, ◌≢◌, ◌⊎◌, ℕ, ◌+◌, List, [], ◌∷◌, ◌++◌, length, map, get_or, refl}
use Rattle.std.proofs.Common.{sym, ap, ap₂, ◌∙◌, arith, codes, inl, inr}
use Rattle.zd_model.specs.Script.{letters_of, numbers_of, line_text}
use Rattle.zd_model.specs.declared.requests.What.{What}
use Rattle.zd_model.specs.declared.requests.What.TheVariants.{Read, Write, Discard, Flush}
use Rattle.zd_model.specs.declared.requests.What.TheVariants.{ReadSectors, WriteSectors}
use Rattle.zd_model.specs.declared.requests.Request.{Request}
use Rattle.zd_model.proofs.LineLaws.{line_from, same_count}
use Rattle.zd_model.proofs.TextLaws.{head_is, tail_is}
use Rattle.zd_script.specs.Number.{fields, told}
use Rattle.zd_script.specs.Line.{line_of}
use Rattle.zd_script.specs.declared.line.Asks.TheVariants as asks
use Rattle.zd_script.specs.declared.line.Line.{Line}

-- the letters of a line in front, and what stands behind them
pub record BeginsWith (text letters numbers : List ℕ) : Type 0 where
  pub is : text ≡ letters ++ numbers

pub one_letter : (first l : ℕ) (numbers : List ℕ) → first ≡ l → BeginsWith (first ∷ numbers) (l ∷ []) numbers
one_letter first l numbers is = record { is = ap (λ x. x ∷ numbers) is }

pub two_letters : (first l : ℕ) (numbers : List ℕ) → first ≡ l → BeginsWith (first ∷ 115 ∷ numbers) (l ∷ 115 ∷ []) numbers
two_letters first l numbers is = record { is = ap (λ x. x ∷ 115 ∷ numbers) is }

-- the numbers of a line in front, and what is told of them
abbrev pub Stands : ℕ → List ℕ → List ℕ → List ℕ → Type 0
Stands count text rest values = (ns : List ℕ) × (length ns ≡ count) × (text ≡ fields ns ++ 10 ∷ rest) × (values ≡ map told ns)

-- a line in front, told so
abbrev pub IsLine : List ℕ → List ℕ → Line → Type 0
IsLine text rest line = (r : Request) × (text ≡ line_text r ++ rest) × (line ≡ line_of r)

abbrev read_told : List ℕ → Line
read_told values = record { caller = get_or values 0 0; asks = asks.Read (get_or values 1 0) (get_or values 2 0) }

abbrev write_told : List ℕ → Line
write_told values = record { caller = get_or values 0 0; asks = asks.Write (get_or values 1 0) (get_or values 2 0) (get_or values 3 0) }

abbrev discard_told : List ℕ → Line
discard_told values = record { caller = get_or values 0 0; asks = asks.Discard (get_or values 1 0) (get_or values 2 0) }

abbrev flush_told : List ℕ → Line
flush_told values = record { caller = get_or values 0 0; asks = asks.Flush }

abbrev read_sectors_told : List ℕ → Line
read_sectors_told values =
    record { caller = get_or values 0 0; asks = asks.ReadSectors (get_or values 1 0) (get_or values 2 0) }

abbrev write_sectors_told : List ℕ → Line
write_sectors_told values = record {
  caller = get_or values 0 0;
  asks = asks.WriteSectors (get_or values 1 0) (get_or values 2 0) (get_or values 3 0);
}

-- lists of one, three and four numbers
abbrev one_of : List ℕ → List ℕ
one_of ns = get_or ns 0 0 ∷ []

abbrev three_of : List ℕ → List ℕ
three_of ns = get_or ns 0 0 ∷ get_or ns 1 0 ∷ get_or ns 2 0 ∷ []

abbrev four_of : List ℕ → List ℕ
four_of ns = get_or ns 0 0 ∷ get_or ns 1 0 ∷ get_or ns 2 0 ∷ get_or ns 3 0 ∷ []

one_is : (ns : List ℕ) → length ns ≡ 1 → ns ≡ one_of ns
one_is [] size = absurd (omega arith)
one_is (c ∷ []) size = refl
one_is (c ∷ m ∷ ns) size = absurd (omega arith)

three_are : (ns : List ℕ) → length ns ≡ 3 → ns ≡ three_of ns
three_are [] size = absurd (omega arith)
three_are (c ∷ []) size = absurd (omega arith)
three_are (c ∷ b ∷ []) size = absurd (omega arith)
three_are (c ∷ b ∷ n ∷ []) size = refl
three_are (c ∷ b ∷ n ∷ m ∷ ns) size = absurd (omega arith)

four_are : (ns : List ℕ) → length ns ≡ 4 → ns ≡ four_of ns
four_are [] size = absurd (omega arith)
four_are (c ∷ []) size = absurd (omega arith)
four_are (c ∷ b ∷ []) size = absurd (omega arith)
four_are (c ∷ b ∷ n ∷ []) size = absurd (omega arith)
four_are (c ∷ b ∷ n ∷ s ∷ []) size = refl
four_are (c ∷ b ∷ n ∷ s ∷ m ∷ ns) size = absurd (omega arith)

-- the numbers are those of this request, and told so
stands : (text numbers rest values ns : List ℕ) (r : Request) (tell : List ℕ → Line) → BeginsWith text (letters_of r.what) numbers → numbers ≡ fields ns ++ 10 ∷ rest → values ≡ map told ns → ns ≡ r.caller ∷ numbers_of r.what → tell (map told (r.caller ∷ numbers_of r.what)) ≡ line_of r → IsLine text rest (tell values)
stands text numbers rest values ns r tell first is told_are ns_are tells = (
  r,
  first.is ∙ ap (λ xs. letters_of r.what ++ xs) (is ∙ ap (λ xs. fields xs ++ 10 ∷ rest) ns_are) ∙ sym (line_from r rest),
  ap tell (told_are ∙ ap (map told) ns_are) ∙ tells,
)

pub read_stands : (text numbers rest values : List ℕ) → BeginsWith text (codes "r") numbers → Stands 3 numbers rest values → IsLine text rest (read_told values)
read_stands text numbers rest values first (ns, size, is, told_are) =
    let r : Request = record { caller = get_or ns 0 0; what = Read (get_or ns 1 0) (get_or ns 2 0) } in
    stands text numbers rest values ns r read_told first is told_are (three_are ns size) refl

pub write_stands : (text numbers rest values : List ℕ) → BeginsWith text (codes "w") numbers → Stands 4 numbers rest values → IsLine text rest (write_told values)
write_stands text numbers rest values first (ns, size, is, told_are) =
    let r : Request = record { caller = get_or ns 0 0; what = Write (get_or ns 1 0) (get_or ns 2 0) (get_or ns 3 0) } in
    stands text numbers rest values ns r write_told first is told_are (four_are ns size) refl

pub discard_stands : (text numbers rest values : List ℕ) → BeginsWith text (codes "d") numbers → Stands 3 numbers rest values → IsLine text rest (discard_told values)
discard_stands text numbers rest values first (ns, size, is, told_are) =
    let r : Request = record { caller = get_or ns 0 0; what = Discard (get_or ns 1 0) (get_or ns 2 0) } in
    stands text numbers rest values ns r discard_told first is told_are (three_are ns size) refl

pub flush_stands : (text numbers rest values : List ℕ) → BeginsWith text (codes "f") numbers → Stands 1 numbers rest values → IsLine text rest (flush_told values)
flush_stands text numbers rest values first (ns, size, is, told_are) =
    let r : Request = record { caller = get_or ns 0 0; what = Flush } in
    stands text numbers rest values ns r flush_told first is told_are (one_is ns size) refl

pub read_sectors_stands : (text numbers rest values : List ℕ) → BeginsWith text (codes "rs") numbers → Stands 3 numbers rest values → IsLine text rest (read_sectors_told values)
read_sectors_stands text numbers rest values first (ns, size, is, told_are) =
    let r : Request = record { caller = get_or ns 0 0; what = ReadSectors (get_or ns 1 0) (get_or ns 2 0) } in
    stands text numbers rest values ns r read_sectors_told first is told_are (three_are ns size) refl

pub write_sectors_stands : (text numbers rest values : List ℕ) → BeginsWith text (codes "ws") numbers → Stands 4 numbers rest values → IsLine text rest (write_sectors_told values)
write_sectors_stands text numbers rest values first (ns, size, is, told_are) =
    let r : Request = record { caller = get_or ns 0 0; what = WriteSectors (get_or ns 1 0) (get_or ns 2 0) (get_or ns 3 0) } in
    stands text numbers rest values ns r write_sectors_told first is told_are (four_are ns size) refl

-- no line of as many letters stands in front
abbrev pub NoLine : ℕ → List ℕ → Type 0
NoLine count text = (r : Request) (rest : List ℕ) → length (letters_of r.what) ≡ count → text ≢ line_text r ++ rest

record SameFront (xs ys rest more : List ℕ) : Type 0 where
  front : xs ≡ ys
  behind : rest ≡ more

same_front : (xs ys rest more : List ℕ) → length xs ≡ length ys → xs ++ rest ≡ ys ++ more → SameFront xs ys rest more
same_front [] [] rest more size e = record { front = refl; behind = e }
same_front [] (y ∷ ys) rest more size e = absurd (omega arith)
same_front (x ∷ xs) [] rest more size e = absurd (omega arith)
same_front (x ∷ xs) (y ∷ ys) rest more size e =
    let first = head_is x y (xs ++ rest) (ys ++ more) e in
    let others = same_front xs ys rest more (omega arith) (tail_is x y (xs ++ rest) (ys ++ more) e) in
    record { front = ap₂ (λ (z : ℕ) (zs : List ℕ). z ∷ zs) first others.front; behind = others.behind }

-- a line in front has these letters and its numbers behind them
line_parts : (text letters numbers : List ℕ) → BeginsWith text letters numbers → (r : Request) (rest : List ℕ)
    → length (letters_of r.what) ≡ length letters → text ≡ line_text r ++ rest
    → SameFront (letters_of r.what) letters (fields (r.caller ∷ numbers_of r.what) ++ 10 ∷ rest) numbers
line_parts text letters numbers first r rest size e =
    same_front (letters_of r.what) letters _ numbers size (sym (line_from r rest) ∙ sym e ∙ first.is)

-- no line stands where the numbers of a form with its letters don't
pub no_numbers : (text numbers : List ℕ) (form : What) (count : ℕ) → length (numbers_of form) + 1 ≡ count
    → BeginsWith text (letters_of form) numbers
    → ((ns rest : List ℕ) → length ns ≡ count → numbers ≢ fields ns ++ 10 ∷ rest) → NoLine (length (letters_of form)) text
no_numbers text numbers form count many first none r rest size e =
    let parts = line_parts text (letters_of form) numbers first r rest size e in
    let same = same_count r.what form parts.front in
    none (r.caller ∷ numbers_of r.what) rest (omega arith) (sym parts.behind)

-- no line in blocks begins with another letter
pub no_letter : (numbers : List ℕ) (l : ℕ) → l ≢ 114 → l ≢ 119 → l ≢ 100 → l ≢ 102 → NoLine 1 (l ∷ numbers)
no_letter numbers l reads writes discards flushes r rest size e =
    by_kind r.what (line_parts (l ∷ numbers) (l ∷ []) numbers (one_letter l l numbers refl) r rest size e).front
  where
    first : {xs ys : List ℕ} → xs ≡ ys → get_or xs 0 0 ≡ get_or ys 0 0
    first same = ap (λ zs. get_or zs 0 0) same

    by_kind : (what : What) → letters_of what ≡ l ∷ [] → ⊥
    by_kind (Read b n) is = reads (sym (first is))
    by_kind (Write b n s) is = writes (sym (first is))
    by_kind (Discard b n) is = discards (sym (first is))
    by_kind Flush is = flushes (sym (first is))
    by_kind (ReadSectors i n) is = absurd (let many = ap (λ xs. length xs) is in omega arith)
    by_kind (WriteSectors i n s) is = absurd (let many = ap (λ xs. length xs) is in omega arith)

-- nor does one in sectors
pub no_letters : (numbers : List ℕ) (l : ℕ) → l ≢ 114 → l ≢ 119 → NoLine 2 (l ∷ 115 ∷ numbers)
no_letters numbers l reads writes r rest size e =
    by_kind r.what (line_parts (l ∷ 115 ∷ numbers) (l ∷ 115 ∷ []) numbers (two_letters l l numbers refl) r rest size e).front
  where
    first : {xs ys : List ℕ} → xs ≡ ys → get_or xs 0 0 ≡ get_or ys 0 0
    first same = ap (λ zs. get_or zs 0 0) same

    by_kind : (what : What) → letters_of what ≡ l ∷ 115 ∷ [] → ⊥
    by_kind (ReadSectors i n) is = reads (sym (first is))
    by_kind (WriteSectors i n s) is = writes (sym (first is))
    by_kind (Read b n) is = absurd (let many = ap (λ xs. length xs) is in omega arith)
    by_kind (Write b n s) is = absurd (let many = ap (λ xs. length xs) is in omega arith)
    by_kind (Discard b n) is = absurd (let many = ap (λ xs. length xs) is in omega arith)
    by_kind Flush is = absurd (let many = ap (λ xs. length xs) is in omega arith)

-- how many letters a form has
letter_count : (what : What) → (length (letters_of what) ≡ 1) ⊎ (length (letters_of what) ≡ 2)
letter_count (Read b n) = inl refl
letter_count (Write b n s) = inl refl
letter_count (Discard b n) = inl refl
letter_count Flush = inl refl
letter_count (ReadSectors i n) = inr refl
letter_count (WriteSectors i n s) = inr refl

-- behind the letters of a line stands a space
second_of_one : (xs numbers rest : List ℕ) (l s : ℕ) → length xs ≡ 1 → l ∷ s ∷ rest ≡ xs ++ 32 ∷ numbers → s ≡ 32
second_of_one [] numbers rest l s size e = absurd (omega arith)
second_of_one (x ∷ []) numbers rest l s size e = head_is s 32 rest numbers (tail_is l x (s ∷ rest) (32 ∷ numbers) e)
second_of_one (x ∷ y ∷ xs) numbers rest l s size e = absurd (omega arith)

-- and two letters end with an s
second_of_two : (what : What) (l : ℕ) (behind more : List ℕ) → length (letters_of what) ≡ 2 → l ∷ behind ≡ letters_of what ++ more
    → (rest : List ℕ) × (behind ≡ 115 ∷ rest)
second_of_two (Read b n) l behind more size e = absurd (omega arith)
second_of_two (Write b n s) l behind more size e = absurd (omega arith)
second_of_two (Discard b n) l behind more size e = absurd (omega arith)
second_of_two Flush l behind more size e = absurd (omega arith)
second_of_two (ReadSectors i n) l behind more size e = (more, tail_is l 114 behind (115 ∷ more) e)
second_of_two (WriteSectors i n s) l behind more size e = (more, tail_is l 119 behind (115 ∷ more) e)

-- with an s behind its first letter, a line is one in sectors
pub no_line_in_sectors : (l : ℕ) (fields : List ℕ) → NoLine 2 (l ∷ 115 ∷ fields) → (r : Request) (rest : List ℕ) → l ∷ 115 ∷ fields ≢ line_text r ++ rest
no_line_in_sectors l fields none r rest e = elim (letter_count r.what) [
  | inl one ↦ (let space = second_of_one (letters_of r.what) _ fields l 115 one (e ∙ line_from r rest) in absurd (omega arith))
  | inr two ↦ none r rest two e
]

-- with none, it is one in blocks
pub no_line_in_blocks : (l : ℕ) (behind : List ℕ) → ((rest : List ℕ) → behind ≢ 115 ∷ rest) → NoLine 1 (l ∷ behind) → (r : Request) (rest : List ℕ) → l ∷ behind ≢ line_text r ++ rest
no_line_in_blocks l behind other none r rest e = elim (letter_count r.what) [
  | inl one ↦ none r rest one e
  | inr two ↦ (let s = second_of_two r.what l behind _ two (e ∙ line_from r rest) in other s.0 s.1)
]
