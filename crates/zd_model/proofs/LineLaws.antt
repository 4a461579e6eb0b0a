-- A line of a script gives its request back, whatever follows it.
use Rattle.std.proofs.Common.{◌≡◌, ℕ, List, [], ◌∷◌, ◌++◌, refl, sym, ap, ap₂, ◌∙◌, arith, get_or}
use Rattle.std.proofs.Common.{length, if◌then◌else◌, ◌==◌}
use Rattle.std.proofs.lemmas.List.{append_assoc}
use Rattle.std.specs.List.{flat_map, AllByRecursion}
use Rattle.zd_model.specs.Text.{numeral}
use Rattle.zd_model.specs.Script.{letters_of, numbers_of, line_text}
use Rattle.zd_model.specs.declared.requests.What.{What}
use Rattle.zd_model.specs.declared.requests.What.TheVariants.{Read, Write, Discard, Flush}
use Rattle.zd_model.specs.declared.requests.What.TheVariants.{ReadSectors, WriteSectors}
use Rattle.zd_model.specs.declared.requests.Request.{Request}
use Rattle.zd_model.proofs.TextLaws.{IsDigit, same_numeral, head_is, tail_is}

abbrev spaced : List ℕ → List ℕ
spaced ns = flat_map (λ n. 32 ∷ numeral n) ns

-- a list that begins with no digit
record Starts (xs : List ℕ) : Type 0 where
  byte : ℕ
  after : List ℕ
  is : xs ≡ byte ∷ after
  no_digit : IsDigit byte → ⊥

space : IsDigit 32 → ⊥
space d = let h = d.low in omega arith

feed : IsDigit 10 → ⊥
feed d = let h = d.low in omega arith

starts : (ns rest : List ℕ) → Starts (spaced ns ++ 10 ∷ rest)
starts [] rest = record { byte = 10; after = rest; is = refl; no_digit = feed }
starts (n ∷ ns) rest = record { byte = 32; after = (numeral n ++ spaced ns) ++ 10 ∷ rest; is = refl; no_digit = space }

record SameNumbers (ms ns rest more : List ℕ) : Type 0 where
  pub numbers : ms ≡ ns
  pub after : rest ≡ more

same_numbers : (ms ns rest more : List ℕ) → spaced ms ++ 10 ∷ rest ≡ spaced ns ++ 10 ∷ more → SameNumbers ms ns rest more
same_numbers [] [] rest more e = record { numbers = refl; after = tail_is 10 10 rest more e }
same_numbers [] (n ∷ ns) rest more e = absurd (let h = head_is 10 32 rest ((numeral n ++ spaced ns) ++ 10 ∷ more) e in omega arith)
same_numbers (m ∷ ms) [] rest more e = absurd (let h = head_is 32 10 ((numeral m ++ spaced ms) ++ 10 ∷ rest) more e in omega arith)
same_numbers (m ∷ ms) (n ∷ ns) rest more e =
    let left = starts ms rest in
    let right = starts ns more in
    let inside : numeral m ++ left.byte ∷ left.after ≡ numeral n ++ right.byte ∷ right.after =
    ap (λ xs. numeral m ++ xs) (sym left.is) ∙ sym (append_assoc (numeral m) (spaced ms) (10 ∷ rest))
    ∙ tail_is 32 32 ((numeral m ++ spaced ms) ++ 10 ∷ rest) ((numeral n ++ spaced ns) ++ 10 ∷ more) e
    ∙ append_assoc (numeral n) (spaced ns) (10 ∷ more) ∙ ap (λ xs. numeral n ++ xs) right.is in
    let same = same_numeral m n left.byte right.byte left.after right.after left.no_digit right.no_digit inside in
    let others = same_numbers ms ns rest more (left.is ∙ ap₂ (λ (z : ℕ) (zs : List ℕ). z ∷ zs) same.byte same.after ∙ sym right.is) in
    record { numbers = ap₂ (λ (z : ℕ) (zs : List ℕ). z ∷ zs) same.number others.numbers; after = others.after }

-- letters have no space, so the first space ends them
abbrev pub HasNoSpace : List ℕ → Type 0
HasNoSpace xs = AllByRecursion (λ x. x ≡ 32 → ⊥) xs

pub letters_plain : (w : What) → HasNoSpace (letters_of w)
letters_plain (Read b n) = ((λ e. omega arith), tt)
letters_plain (Write b n s) = ((λ e. omega arith), tt)
letters_plain (Discard b n) = ((λ e. omega arith), tt)
letters_plain Flush = ((λ e. omega arith), tt)
letters_plain (ReadSectors i n) = ((λ e. omega arith), ((λ e. omega arith), tt))
letters_plain (WriteSectors i n s) = ((λ e. omega arith), ((λ e. omega arith), tt))

pub record SameWord (xs ys rest more : List ℕ) : Type 0 where
  pub word : xs ≡ ys
  pub after : rest ≡ more

pub same_word : (xs ys rest more : List ℕ) → HasNoSpace xs → HasNoSpace ys → xs ++ 32 ∷ rest ≡ ys ++ 32 ∷ more
    → SameWord xs ys rest more
same_word [] [] rest more h k e = record { word = refl; after = tail_is 32 32 rest more e }
same_word [] (y ∷ ys) rest more h k e = absurd (k.0 (sym (head_is 32 y rest (ys ++ 32 ∷ more) e)))
same_word (x ∷ xs) [] rest more h k e = absurd (h.0 (head_is x 32 (xs ++ 32 ∷ rest) more e))
same_word (x ∷ xs) (y ∷ ys) rest more h k e =
    let first = head_is x y (xs ++ 32 ∷ rest) (ys ++ 32 ∷ more) e in
    let next = tail_is x y (xs ++ 32 ∷ rest) (ys ++ 32 ∷ more) e in
    let others = same_word xs ys rest more h.1 k.1 next in
    record { word = ap₂ (λ (z : ℕ) (zs : List ℕ). z ∷ zs) first others.word; after = others.after }

-- the request of letters and numbers
what_by : List ℕ → List ℕ → What
what_by letters (place ∷ count ∷ []) =
    if get_or letters 0 0 == 100 then Discard place count else
    (if length letters == 1 then Read place count else ReadSectors place count)
what_by letters (place ∷ count ∷ seed ∷ []) =
    if length letters == 1 then Write place count seed else WriteSectors place count seed
what_by letters numbers = Flush

what_by-is : (w : What) → what_by (letters_of w) (numbers_of w) ≡ w
unfolding what_by
what_by-is (Read b n) = refl
what_by-is (Write b n s) = refl
what_by-is (Discard b n) = refl
what_by-is Flush = refl
what_by-is (ReadSectors i n) = refl
what_by-is (WriteSectors i n s) = refl

pub what_is : (v w : What) → letters_of v ≡ letters_of w → numbers_of v ≡ numbers_of w → v ≡ w
what_is v w l e = sym (what_by-is v) ∙ ap₂ what_by l e ∙ what_by-is w

-- how many numbers stand behind the caller
count_by : List ℕ → ℕ
count_by letters =
    if get_or letters 0 0 == 102 then 0 else (if get_or letters 0 0 == 119 then 3 else 2)

count_by-is : (w : What) → count_by (letters_of w) ≡ length (numbers_of w)
unfolding count_by
count_by-is (Read b n) = refl
count_by-is (Write b n s) = refl
count_by-is (Discard b n) = refl
count_by-is Flush = refl
count_by-is (ReadSectors i n) = refl
count_by-is (WriteSectors i n s) = refl

pub same_count : (v w : What) → letters_of v ≡ letters_of w → length (numbers_of v) ≡ length (numbers_of w)
same_count v w l = sym (count_by-is v) ∙ ap count_by l ∙ count_by-is w

-- a line from left to right: letters, then the numbers with a space before each
pub line_from : (r : Request) (rest : List ℕ) → line_text r ++ rest ≡ letters_of r.what ++ (spaced (r.caller ∷ numbers_of r.what) ++ 10 ∷ rest)
unfolding line_text
line_from r rest =
    let numbers : List ℕ = spaced (r.caller ∷ numbers_of r.what) in
    append_assoc (letters_of r.what ++ numbers) (10 ∷ []) rest ∙ append_assoc (letters_of r.what) numbers (10 ∷ rest)

pub record SameLine (r s : Request) (rest more : List ℕ) : Type 0 where
  pub request : r ≡ s
  pub after : rest ≡ more

pub same_line : (r s : Request) (rest more : List ℕ) → line_text r ++ rest ≡ line_text s ++ more → SameLine r s rest more
same_line r s rest more e =
    let whole = sym (line_from r rest) ∙ e ∙ line_from s more in
    let letters = same_word (letters_of r.what) (letters_of s.what) _ _ (letters_plain r.what) (letters_plain s.what) whole in
    let inside = ap (λ xs. 32 ∷ xs) letters.after in
    let same = same_numbers (r.caller ∷ numbers_of r.what) (s.caller ∷ numbers_of s.what) rest more inside in
    let caller = head_is r.caller s.caller (numbers_of r.what) (numbers_of s.what) same.numbers in
    let numbers = tail_is r.caller s.caller (numbers_of r.what) (numbers_of s.what) same.numbers in
    let what = what_is r.what s.what letters.word numbers in
    record { request = λ i. record { caller = caller i; what = what i }; after = same.after }

no_word : (xs rest : List ℕ) → [] ≡ xs ++ 32 ∷ rest → ⊥
no_word [] rest e = cc
no_word (x ∷ xs) rest e = cc

pub no_line : (r : Request) (rest : List ℕ) → [] ≡ line_text r ++ rest → ⊥
no_line r rest e = no_word (letters_of r.what) _ (e ∙ line_from r rest)

-- a text is that of one plan
pub one_plan : (plan other : List Request) → flat_map line_text plan ≡ flat_map line_text other → plan ≡ other
one_plan [] [] e = refl
one_plan [] (r ∷ other) e = absurd (no_line r (flat_map line_text other) e)
one_plan (r ∷ plan) [] e = absurd (no_line r (flat_map line_text plan) (sym e))
one_plan (r ∷ plan) (s ∷ other) e =
    let same = same_line r s (flat_map line_text plan) (flat_map line_text other) e in
    ap₂ (λ (q : Request) (qs : List Request). q ∷ qs) same.request (one_plan plan other same.after)

-- what a request's line can begin with
pub record LineIs (r : Request) (rest letters ns more : List ℕ) : Type 0 where
  pub kind : letters_of r.what ≡ letters
  pub numbers : r.caller ∷ numbers_of r.what ≡ ns
  pub after : rest ≡ more

pub line_is : (r : Request) (rest letters : List ℕ) (n : ℕ) (ns more : List ℕ) → HasNoSpace letters
    → line_text r ++ rest ≡ letters ++ (spaced (n ∷ ns) ++ 10 ∷ more) → LineIs r rest letters (n ∷ ns) more
line_is r rest letters n ns more plain e =
    let word = same_word (letters_of r.what) letters _ _ (letters_plain r.what) plain (sym (line_from r rest) ∙ e) in
    let same = same_numbers (r.caller ∷ numbers_of r.what) (n ∷ ns) rest more (ap (λ xs. 32 ∷ xs) word.after) in
    record { kind = word.word; numbers = same.numbers; after = same.after }

-- no kind of request has two numbers
pub not_two : (what : What) (c m n : ℕ) → c ∷ numbers_of what ≡ m ∷ n ∷ [] → ⊥
not_two (Read b k) c m n e = cc
not_two (Write b k s) c m n e = cc
not_two (Discard b k) c m n e = cc
not_two Flush c m n e = cc
not_two (ReadSectors i k) c m n e = cc
not_two (WriteSectors i k s) c m n e = cc

-- a read's line from left to right
pub read_line : (c b n : ℕ) (tail : List ℕ) → line_text (record { caller = c; what = Read b n }) ++ tail ≡ 114 ∷ 32 ∷ (numeral c ++ 32 ∷ (numeral b ++ 32 ∷ (numeral n ++ 10 ∷ tail)))
unfolding line_text
read_line c b n tail =
    let last : List ℕ = 32 ∷ (numeral n ++ []) in
    let more : List ℕ = 32 ∷ (numeral b ++ last) in
    ap (λ xs. 114 ∷ 32 ∷ xs) (append_assoc (numeral c ++ more) (10 ∷ []) tail ∙ append_assoc (numeral c) more (10 ∷ tail)
    ∙ ap (λ xs. numeral c ++ 32 ∷ xs) (append_assoc (numeral b) last (10 ∷ tail) ∙ ap (λ xs. numeral b ++ 32 ∷ xs) (append_assoc (numeral n) [] (10 ∷ tail))))

-- lines that begin with r and a space are those of reads of blocks
pub begins_read : (r : Request) (rest more : List ℕ) → line_text r ++ rest ≡ 114 ∷ 32 ∷ more → (b : ℕ) × (n : ℕ) × (r ≡ record { caller = r.caller; what = Read b n })
begins_read r rest more e =
    let plain : HasNoSpace (114 ∷ []) = ((λ f. omega arith), tt) in
    by_kind r.what refl (same_word (letters_of r.what) (114 ∷ []) _ more (letters_plain r.what) plain (sym (line_from r rest) ∙ e)).word
  where
    by_kind : (w : What) → r.what ≡ w → letters_of r.what ≡ 114 ∷ [] → (b : ℕ) × (n : ℕ) × (r ≡ record { caller = r.caller; what = Read b n })
    by_kind (Read b n) is l = (b, n, (λ i. record { caller = r.caller; what = is i }))
    by_kind (Write b n s) is l = absurd (let k = ap (λ xs. get_or xs 0 0) (sym (ap letters_of is) ∙ l) in omega arith)
    by_kind (Discard b n) is l = absurd (let k = ap (λ xs. get_or xs 0 0) (sym (ap letters_of is) ∙ l) in omega arith)
    by_kind Flush is l = absurd (let k = ap (λ xs. get_or xs 0 0) (sym (ap letters_of is) ∙ l) in omega arith)
    by_kind (ReadSectors j n) is l = absurd (let k = ap (λ xs. length xs) (sym (ap letters_of is) ∙ l) in omega arith)
    by_kind (WriteSectors j n s) is l = absurd (let k = ap (λ xs. length xs) (sym (ap letters_of is) ∙ l) in omega arith)
