-- A report determines its history and how it ended.
use Rattle.std.proofs.Common.{◌≡◌, ℕ, ◌*◌, List, [], ◌∷◌, ◌++◌, length, map, refl, sym, ap, ap₂, ◌∙◌, arith, subst, get_or, if◌then◌else◌, ◌==◌, codes, drop}
use Rattle.std.proofs.lemmas.List.{append_assoc}
use Rattle.std.specs.List.{AllByRecursion, join_with_byte, flat_map}
use Rattle.zd_model.specs.Text.{numeral}
use Rattle.zd_model.specs.Requests.{Operation, first_sector, operation_of, sector_count}
use Rattle.zd_model.specs.Requests.Operation.{Reading, Writing, Discarding, Flushing}
use Rattle.zd_model.specs.Script.{letters_of, numbers_of}
use Rattle.zd_model.specs.declared.texts.BadLine.{BadLine}
use Rattle.zd_model.specs.declared.texts.BadLine.TheVariants as lines
use Rattle.zd_model.specs.Report.{why_text, items_text, reply_text, entry_text, outcome_status, outcome_text, report, run_output, HasReply, IsReported, IsReplyOf}
use Rattle.zd_model.specs.declared.requests.What.{What}
use Rattle.zd_model.specs.Plain.{Answer}
use Rattle.zd_model.specs.Plain.Answer.{Got, Done, Range, Fault}
use Rattle.zd_model.specs.History.{HistoryEntry}
use Rattle.zd_model.specs.declared.requests.Ending.{Ending}
use Rattle.zd_model.specs.declared.requests.Ending.TheVariants as endings
use Rattle.zd_model.specs.declared.texts.Outcome.{Outcome}
use Rattle.zd_model.specs.declared.texts.Outcome.TheVariants as outcomes
use Rattle.zd_model.specs.declared.texts.NoVolume.TheVariants as volumes
use Rattle.zd_base.specs.declared.numbers.Why.TheVariants as whys
use Rattle.zd_model.proofs.TextLaws.{IsDigit, same_numeral, head_is, tail_is, numeral_head}
use Rattle.zd_model.proofs.LineLaws.{letters_plain, same_count, same_word, what_is}
use Rattle.zd_model.proofs.ItemLaws.{AllBytes}
use Rattle.zd_model.proofs.ReadLaws.{same_items}

numbers_then : List ℕ → List ℕ → List ℕ
numbers_then [] rest = rest
numbers_then (n ∷ ns) rest = numeral n ++ 32 ∷ numbers_then ns rest

-- the line from left to right
line_parts : HistoryEntry → List ℕ → List ℕ
line_parts e rest = numeral e.caller ++ 32 ∷ (numeral e.request ++ 32 ∷ (numeral e.piece ++ 32 ∷ (letters_of e.what ++ 32 ∷ numbers_then (numbers_of e.what) (reply_text e.what e.reply ++ 32 ∷ 64 ∷ (numeral e.at ++ 10 ∷ rest)))))

words_split : (x y : List ℕ) (words : List (List ℕ)) (rest : List ℕ) → join_with_byte 32 (x ∷ y ∷ words) ++ rest ≡ x ++ 32 ∷ (join_with_byte 32 (y ∷ words) ++ rest)
words_split x y words rest = append_assoc x (32 ∷ join_with_byte 32 (y ∷ words)) rest

numbers_split : (ns : List ℕ) (reply at rest : List ℕ) → join_with_byte 32 (map numeral ns ++ reply ∷ at ∷ []) ++ rest ≡ numbers_then ns (reply ++ 32 ∷ (at ++ rest))
unfolding numbers_then
numbers_split [] reply at rest = append_assoc reply (32 ∷ at) rest
numbers_split (n ∷ []) reply at rest = words_split (numeral n) reply (at ∷ []) rest ∙ ap (λ xs. numeral n ++ 32 ∷ xs) (numbers_split [] reply at rest)
numbers_split (n ∷ m ∷ ns) reply at rest = words_split (numeral n) (numeral m) (map numeral ns ++ reply ∷ at ∷ []) rest ∙ ap (λ xs. numeral n ++ 32 ∷ xs) (numbers_split (m ∷ ns) reply at rest)

letters_split : (l ns reply at rest : List ℕ) → join_with_byte 32 (l ∷ (map numeral ns ++ reply ∷ at ∷ [])) ++ rest ≡ l ++ 32 ∷ numbers_then ns (reply ++ 32 ∷ (at ++ rest))
letters_split l [] reply at rest = words_split l reply (at ∷ []) rest ∙ ap (λ xs. l ++ 32 ∷ xs) (numbers_split [] reply at rest)
letters_split l (n ∷ ns) reply at rest = words_split l (numeral n) (map numeral ns ++ reply ∷ at ∷ []) rest ∙ ap (λ xs. l ++ 32 ∷ xs) (numbers_split (n ∷ ns) reply at rest)

entry_split : (e : HistoryEntry) (rest : List ℕ) → entry_text e ++ rest ≡ line_parts e rest
unfolding entry_text line_parts
entry_split e rest =
    let tail : List (List ℕ) = map numeral (numbers_of e.what) ++ reply_text e.what e.reply ∷ (64 ∷ numeral e.at) ∷ [] in
    let words : List (List ℕ) = letters_of e.what ∷ tail in
    append_assoc (join_with_byte 32 (numeral e.caller ∷ numeral e.request ∷ numeral e.piece ∷ words)) (10 ∷ []) rest
    ∙ words_split (numeral e.caller) (numeral e.request) (numeral e.piece ∷ words) (10 ∷ rest)
    ∙ ap (λ xs. numeral e.caller ++ 32 ∷ xs) (words_split (numeral e.request) (numeral e.piece) words (10 ∷ rest)
    ∙ ap (λ xs. numeral e.request ++ 32 ∷ xs) (words_split (numeral e.piece) (letters_of e.what) tail (10 ∷ rest)
    ∙ ap (λ xs. numeral e.piece ++ 32 ∷ xs) (letters_split (letters_of e.what) (numbers_of e.what) (reply_text e.what e.reply) (64 ∷ numeral e.at) (10 ∷ rest))))

space : IsDigit 32 → ⊥
space d = let h = d.low in omega arith

feed : IsDigit 10 → ⊥
feed d = let h = d.low in omega arith

record Same {X : Type 0} (x y : X) (rest more : List ℕ) : Type 0 where
  pub value : x ≡ y
  pub after : rest ≡ more

same_numbers : (ms ns rest more : List ℕ) → length ms ≡ length ns → numbers_then ms rest ≡ numbers_then ns more → Same ms ns rest more
unfolding numbers_then
same_numbers [] [] rest more l e = record { value = refl; after = e }
same_numbers [] (n ∷ ns) rest more l e = absurd (omega arith)
same_numbers (m ∷ ms) [] rest more l e = absurd (omega arith)
same_numbers (m ∷ ms) (n ∷ ns) rest more l e =
    let first = same_numeral m n 32 32 (numbers_then ms rest) (numbers_then ns more) space space e in
    let others = same_numbers ms ns rest more (omega arith) first.after in
    record { value = ap₂ (λ (x : ℕ) (xs : List ℕ). x ∷ xs) first.number others.value; after = others.after }

-- bytes that were answered are whole sectors
read_bytes : (operation : Operation) (n : ℕ) (bytes : List ℕ) → IsReplyOf operation n (Got bytes) → (length bytes ≡ 512 * n) × AllBytes bytes
read_bytes Reading n bytes h = h
read_bytes Writing n bytes h = absurd h
read_bytes Discarding n bytes h = absurd h
read_bytes Flushing n bytes h = absurd h

same_reply : (w : What) (r q : Answer) (rest more : List ℕ) → HasReply w r → HasReply w q → reply_text w r ++ 32 ∷ rest ≡ reply_text w q ++ 32 ∷ more → Same r q rest more
same_reply w (Got xs) (Got ys) rest more h k e =
    let left = read_bytes (operation_of w) (sector_count w) xs h in
    let right = read_bytes (operation_of w) (sector_count w) ys k in
    let inside : items_text (first_sector w) xs ++ 32 ∷ rest ≡ items_text (first_sector w) ys ++ 32 ∷ more = cc in
    let same = same_items (first_sector w) (sector_count w) (sector_count w) xs ys rest more left.0 right.0 left.1 right.1 inside in
    record { value = ap Got same.bytes; after = same.after }
same_reply w (Got xs) Done rest more h k e = absurd (let f = head_is 97 111 _ _ (tail_is 100 100 _ _ e) in omega arith)
same_reply w (Got xs) Range rest more h k e = absurd (let f = head_is 100 114 _ _ e in omega arith)
same_reply w (Got xs) Fault rest more h k e = absurd (let f = head_is 100 102 _ _ e in omega arith)
same_reply w Done (Got ys) rest more h k e = absurd (let f = head_is 111 97 _ _ (tail_is 100 100 _ _ e) in omega arith)
same_reply w Done Done rest more h k e = record { value = refl; after = cc }
same_reply w Done Range rest more h k e = absurd (let f = head_is 100 114 _ _ e in omega arith)
same_reply w Done Fault rest more h k e = absurd (let f = head_is 100 102 _ _ e in omega arith)
same_reply w Range (Got ys) rest more h k e = absurd (let f = head_is 114 100 _ _ e in omega arith)
same_reply w Range Done rest more h k e = absurd (let f = head_is 114 100 _ _ e in omega arith)
same_reply w Range Range rest more h k e = record { value = refl; after = cc }
same_reply w Range Fault rest more h k e = absurd (let f = head_is 114 102 _ _ e in omega arith)
same_reply w Fault (Got ys) rest more h k e = absurd (let f = head_is 102 100 _ _ e in omega arith)
same_reply w Fault Done rest more h k e = absurd (let f = head_is 102 100 _ _ e in omega arith)
same_reply w Fault Range rest more h k e = absurd (let f = head_is 102 114 _ _ e in omega arith)
same_reply w Fault Fault rest more h k e = record { value = refl; after = cc }

same_entry : (e f : HistoryEntry) (rest more : List ℕ) → IsReported e → IsReported f → entry_text e ++ rest ≡ entry_text f ++ more → Same e f rest more
unfolding line_parts
same_entry e f rest more h k eq =
    let whole : line_parts e rest ≡ line_parts f more = sym (entry_split e rest) ∙ eq ∙ entry_split f more in
    let callers = same_numeral e.caller f.caller 32 32 _ _ space space whole in
    let requests = same_numeral e.request f.request 32 32 _ _ space space callers.after in
    let pieces = same_numeral e.piece f.piece 32 32 _ _ space space requests.after in
    let letters = same_word (letters_of e.what) (letters_of f.what) _ _ (letters_plain e.what) (letters_plain f.what) pieces.after in
    let numbers = same_numbers (numbers_of e.what) (numbers_of f.what) _ _ (same_count e.what f.what letters.word) letters.after in
    let what = what_is e.what f.what letters.word numbers.value in
    let told : reply_text f.what e.reply ++ 32 ∷ 64 ∷ (numeral e.at ++ 10 ∷ rest) ≡ reply_text f.what f.reply ++ 32 ∷ 64 ∷ (numeral f.at ++ 10 ∷ more) = subst (λ w. reply_text w e.reply ++ 32 ∷ 64 ∷ (numeral e.at ++ 10 ∷ rest) ≡ reply_text f.what f.reply ++ 32 ∷ 64 ∷ (numeral f.at ++ 10 ∷ more)) what numbers.after in
    let replies = same_reply f.what e.reply f.reply _ _ (subst (λ w. HasReply w e.reply) what h) k told in
    let times = same_numeral e.at f.at 10 10 rest more feed feed (tail_is 64 64 _ _ replies.after) in
    record {
      value = λ i. record { caller = callers.number i; request = requests.number i; piece = pieces.number i; what = what i; reply = replies.value i; at = times.number i };
      after = times.after;
    }

record Ends (xs : List ℕ) : Type 0 where
  pub after : List ℕ
  pub is : xs ≡ 101 ∷ after

ends : (o : Outcome) → Ends (outcome_text o)
ends (outcomes.Ended endings.Ok) = record { after = _; is = refl }
ends (outcomes.Ended (endings.Stopped whys.Device)) = record { after = _; is = refl }
ends (outcomes.Ended (endings.Stopped whys.Generation)) = record { after = _; is = refl }
ends (outcomes.Ended (endings.Stopped whys.Memory)) = record { after = _; is = refl }
ends outcomes.Usage = record { after = _; is = refl }
ends (outcomes.BadScript line why) = record { after = _; is = refl }
ends (outcomes.NoVolume volumes.NoSuperBlock) = record { after = _; is = refl }
ends (outcomes.NoVolume volumes.Layout) = record { after = _; is = refl }
ends (outcomes.NoVolume (volumes.BadMap chunk)) = record { after = _; is = refl }
ends (outcomes.NoVolume (volumes.BadBits zone block)) = record { after = _; is = refl }
ends outcomes.Source = record { after = _; is = refl }
ends outcomes.NotBuilt = record { after = _; is = refl }

no_entry : (o : Outcome) (f : HistoryEntry) (rest : List ℕ) → outcome_text o ≡ entry_text f ++ rest → ⊥
unfolding line_parts
no_entry o f rest eq =
    let front = numeral_head f.caller 101 _ (ends o).after (sym (entry_split f rest) ∙ sym eq ∙ (ends o).is) in
    let high = front.high in
    omega arith

-- the outcome by the status behind `end `, and the first letter behind `volume `
stopped_by : ℕ → Outcome
stopped_by n = outcomes.Ended (endings.Stopped (if n == 52 then whys.Device else (if n == 55 then whys.Memory else whys.Generation)))

outcome_by : ℕ → ℕ → ℕ → Outcome
outcome_by status next letter =
    if status == 48 then outcomes.Ended endings.Ok else
    (if status == 49 then (if next == 49 then outcomes.NotBuilt else outcomes.Usage) else
    (if status == 51 then outcomes.NoVolume (if letter == 110 then volumes.NoSuperBlock else volumes.Layout) else
    (if status == 53 then outcomes.Source else stopped_by status)))

outcome_of : List ℕ → Outcome
outcome_of xs = outcome_by (get_or xs 4 0) (get_or xs 5 0) (get_or xs 13 0)

-- which numbers are told: none, a line, a chunk, a zone with a block
kind_of : Outcome → ℕ
kind_of (outcomes.BadScript line why) = 1
kind_of (outcomes.NoVolume (volumes.BadMap chunk)) = 2
kind_of (outcomes.NoVolume (volumes.BadBits zone block)) = 3
kind_of outcome = 0

-- by the digit behind `end ` and the first letter behind `volume `
kind_by : ℕ → ℕ → ℕ
kind_by status letter =
    if status == 50 then 1 else
    (if status == 51 then (if letter == 109 then 2 else (if letter == 98 then 3 else 0)) else 0)

-- the text determines the outcome, where it tells no number
outcome-text : (o : Outcome) → kind_of o ≡ 0 → outcome_of (outcome_text o) ≡ o
unfolding outcome_of outcome_by stopped_by kind_of
outcome-text (outcomes.Ended endings.Ok) h = refl
outcome-text (outcomes.Ended (endings.Stopped whys.Device)) h = refl
outcome-text (outcomes.Ended (endings.Stopped whys.Generation)) h = refl
outcome-text (outcomes.Ended (endings.Stopped whys.Memory)) h = refl
outcome-text outcomes.Usage h = refl
outcome-text (outcomes.BadScript line why) h = absurd (omega arith)
outcome-text (outcomes.NoVolume volumes.NoSuperBlock) h = refl
outcome-text (outcomes.NoVolume volumes.Layout) h = refl
outcome-text (outcomes.NoVolume (volumes.BadMap chunk)) h = absurd (omega arith)
outcome-text (outcomes.NoVolume (volumes.BadBits zone block)) h = absurd (omega arith)
outcome-text outcomes.Source h = refl
outcome-text outcomes.NotBuilt h = refl

-- the text says which numbers are told
kind-text : (o : Outcome) → kind_by (get_or (outcome_text o) 4 0) (get_or (outcome_text o) 13 0) ≡ kind_of o
unfolding kind_of kind_by
kind-text (outcomes.Ended endings.Ok) = refl
kind-text (outcomes.Ended (endings.Stopped whys.Device)) = refl
kind-text (outcomes.Ended (endings.Stopped whys.Generation)) = refl
kind-text (outcomes.Ended (endings.Stopped whys.Memory)) = refl
kind-text outcomes.Usage = refl
kind-text (outcomes.BadScript line why) = refl
kind-text (outcomes.NoVolume volumes.NoSuperBlock) = refl
kind-text (outcomes.NoVolume volumes.Layout) = refl
kind-text (outcomes.NoVolume (volumes.BadMap chunk)) = refl
kind-text (outcomes.NoVolume (volumes.BadBits zone block)) = refl
kind-text outcomes.Source = refl
kind-text outcomes.NotBuilt = refl

-- a rule, by its first letter
rule_by : ℕ → BadLine
rule_by letter = if letter == 102 then lines.Form else (if letter == 110 then lines.Number else (if letter == 99 then lines.Caller else lines.TooLong))

rule-text : (why : BadLine) → rule_by (get_or (why_text why ++ 10 ∷ []) 0 0) ≡ why
unfolding rule_by
rule-text lines.Form = refl
rule-text lines.Number = refl
rule-text lines.Caller = refl
rule-text lines.TooLong = refl

space_ends : IsDigit 32 → ⊥
space_ends d = let low = d.low in omega arith

-- a line and a rule that are told
same_refusal : (m n : ℕ) (v w : BadLine) → outcome_text (outcomes.BadScript m v) ≡ outcome_text (outcomes.BadScript n w) → outcomes.BadScript m v ≡ outcomes.BadScript n w
same_refusal m n v w e =
    let behind : numeral m ++ 32 ∷ (why_text v ++ 10 ∷ []) ≡ numeral n ++ 32 ∷ (why_text w ++ 10 ∷ []) = ap (λ (xs : List ℕ). drop 13 xs) e in
    let same = same_numeral m n 32 32 (why_text v ++ 10 ∷ []) (why_text w ++ 10 ∷ []) space_ends space_ends behind in
    let rule = sym (rule-text v) ∙ ap (λ (xs : List ℕ). rule_by (get_or xs 0 0)) same.after ∙ rule-text w in
    ap₂ (λ (l : ℕ) (y : BadLine). outcomes.BadScript l y) same.number rule

-- a chunk that is told
same_chunk : (m n : ℕ) → outcome_text (outcomes.NoVolume (volumes.BadMap m)) ≡ outcome_text (outcomes.NoVolume (volumes.BadMap n)) → m ≡ n
same_chunk m n e =
    let same = same_numeral m n 10 10 [] [] feed feed (ap (λ (xs : List ℕ). drop 17 xs) e) in
    same.number

-- a zone and a block that are told
same_block : (m n x y : ℕ) → outcome_text (outcomes.NoVolume (volumes.BadBits m x)) ≡ outcome_text (outcomes.NoVolume (volumes.BadBits n y)) → (m ≡ n) × (x ≡ y)
same_block m n x y e =
    let zones = same_numeral m n 32 32 (numeral x ++ 10 ∷ []) (numeral y ++ 10 ∷ []) space_ends space_ends (ap (λ (xs : List ℕ). drop 18 xs) e) in
    let blocks = same_numeral x y 10 10 [] [] feed feed zones.after in
    (zones.number, blocks.number)

-- the outcome that tells a line, a chunk, and a zone with a block
tells_line : (p : Outcome) → kind_of p ≡ 1 → (n : ℕ) × (w : BadLine) × (p ≡ outcomes.BadScript n w)
unfolding kind_of
tells_line (outcomes.BadScript n w) h = (n, w, refl)
tells_line (outcomes.Ended f) h = absurd (omega arith)
tells_line outcomes.Usage h = absurd (omega arith)
tells_line (outcomes.NoVolume volumes.NoSuperBlock) h = absurd (omega arith)
tells_line (outcomes.NoVolume volumes.Layout) h = absurd (omega arith)
tells_line (outcomes.NoVolume (volumes.BadMap n)) h = absurd (omega arith)
tells_line (outcomes.NoVolume (volumes.BadBits n y)) h = absurd (omega arith)
tells_line outcomes.Source h = absurd (omega arith)
tells_line outcomes.NotBuilt h = absurd (omega arith)

tells_chunk : (p : Outcome) → kind_of p ≡ 2 → (n : ℕ) × (p ≡ outcomes.NoVolume (volumes.BadMap n))
unfolding kind_of
tells_chunk (outcomes.BadScript n w) h = absurd (omega arith)
tells_chunk (outcomes.Ended f) h = absurd (omega arith)
tells_chunk outcomes.Usage h = absurd (omega arith)
tells_chunk (outcomes.NoVolume volumes.NoSuperBlock) h = absurd (omega arith)
tells_chunk (outcomes.NoVolume volumes.Layout) h = absurd (omega arith)
tells_chunk (outcomes.NoVolume (volumes.BadMap n)) h = (n, refl)
tells_chunk (outcomes.NoVolume (volumes.BadBits n y)) h = absurd (omega arith)
tells_chunk outcomes.Source h = absurd (omega arith)
tells_chunk outcomes.NotBuilt h = absurd (omega arith)

tells_block : (p : Outcome) → kind_of p ≡ 3 → (n y : ℕ) × (p ≡ outcomes.NoVolume (volumes.BadBits n y))
unfolding kind_of
tells_block (outcomes.BadScript n w) h = absurd (omega arith)
tells_block (outcomes.Ended f) h = absurd (omega arith)
tells_block outcomes.Usage h = absurd (omega arith)
tells_block (outcomes.NoVolume volumes.NoSuperBlock) h = absurd (omega arith)
tells_block (outcomes.NoVolume volumes.Layout) h = absurd (omega arith)
tells_block (outcomes.NoVolume (volumes.BadMap n)) h = absurd (omega arith)
tells_block (outcomes.NoVolume (volumes.BadBits n y)) h = (n, y, refl)
tells_block outcomes.Source h = absurd (omega arith)
tells_block outcomes.NotBuilt h = absurd (omega arith)

-- the text determines the outcome
same_outcome : (o p : Outcome) → outcome_text o ≡ outcome_text p → o ≡ p
unfolding kind_of
same_outcome o p e = by_kind o refl
  where
    alike : kind_of o ≡ kind_of p
    alike = sym (kind-text o) ∙ ap (λ (xs : List ℕ). kind_by (get_or xs 4 0) (get_or xs 13 0)) e ∙ kind-text p

    plain : kind_of o ≡ 0 → o ≡ p
    plain h = sym (outcome-text o h) ∙ ap outcome_of e ∙ outcome-text p (sym alike ∙ h)

    by_kind : (q : Outcome) → o ≡ q → o ≡ p
    by_kind (outcomes.BadScript m v) is =
        let other = tells_line p (sym alike ∙ ap kind_of is) in
        is ∙ same_refusal m other.0 v other.1 (sym (ap outcome_text is) ∙ e ∙ ap outcome_text other.2) ∙ sym other.2
    by_kind (outcomes.NoVolume (volumes.BadMap m)) is =
        let other = tells_chunk p (sym alike ∙ ap kind_of is) in
        let chunk = same_chunk m other.0 (sym (ap outcome_text is) ∙ e ∙ ap outcome_text other.1) in
        is ∙ ap (λ (n : ℕ). outcomes.NoVolume (volumes.BadMap n)) chunk ∙ sym other.1
    by_kind (outcomes.NoVolume (volumes.BadBits m x)) is =
        let other = tells_block p (sym alike ∙ ap kind_of is) in
        let place = same_block m other.0 x other.1 (sym (ap outcome_text is) ∙ e ∙ ap outcome_text other.2) in
        is ∙ ap₂ (λ (n y : ℕ). outcomes.NoVolume (volumes.BadBits n y)) place.0 place.1 ∙ sym other.2
    by_kind (outcomes.NoVolume volumes.NoSuperBlock) is = plain (ap kind_of is)
    by_kind (outcomes.NoVolume volumes.Layout) is = plain (ap kind_of is)
    by_kind (outcomes.Ended f) is = plain (ap kind_of is)
    by_kind outcomes.Usage is = plain (ap kind_of is)
    by_kind outcomes.Source is = plain (ap kind_of is)
    by_kind outcomes.NotBuilt is = plain (ap kind_of is)

-- and begins with its status
pub tells_status : (o : Outcome) → (rest : List ℕ) × (outcome_text o ≡ codes "end " ++ numeral (outcome_status o) ++ 32 ∷ rest)
unfolding numeral
tells_status (outcomes.Ended endings.Ok) = (_, refl)
tells_status (outcomes.Ended (endings.Stopped whys.Device)) = (_, refl)
tells_status (outcomes.Ended (endings.Stopped whys.Generation)) = (_, refl)
tells_status (outcomes.Ended (endings.Stopped whys.Memory)) = (_, refl)
tells_status outcomes.Usage = (_, refl)
tells_status (outcomes.BadScript line why) = (_, refl)
tells_status (outcomes.NoVolume volumes.NoSuperBlock) = (_, refl)
tells_status (outcomes.NoVolume volumes.Layout) = (_, refl)
tells_status (outcomes.NoVolume (volumes.BadMap chunk)) = (_, refl)
tells_status (outcomes.NoVolume (volumes.BadBits zone block)) = (_, refl)
tells_status outcomes.Source = (_, refl)
tells_status outcomes.NotBuilt = (_, refl)

pub record SameOutput (history other : List HistoryEntry) (outcome last : Outcome) : Type 0 where
  pub entries : history ≡ other
  pub outcomes_are : outcome ≡ last

-- an output determines the history and the outcome
pub same_output : (history other : List HistoryEntry) (outcome last : Outcome) → AllByRecursion IsReported history → AllByRecursion IsReported other → run_output history outcome ≡ run_output other last → SameOutput history other outcome last
unfolding run_output
same_output [] [] outcome last h k e = record { entries = refl; outcomes_are = same_outcome outcome last e }
same_output [] (f ∷ other) outcome last h k e = absurd (no_entry outcome f (flat_map entry_text other ++ outcome_text last) (e ∙ append_assoc (entry_text f) (flat_map entry_text other) (outcome_text last)))
same_output (f ∷ history) [] outcome last h k e = absurd (no_entry last f (flat_map entry_text history ++ outcome_text outcome) (sym e ∙ append_assoc (entry_text f) (flat_map entry_text history) (outcome_text outcome)))
same_output (f ∷ history) (g ∷ other) outcome last h k e =
    let first = same_entry f g (flat_map entry_text history ++ outcome_text outcome) (flat_map entry_text other ++ outcome_text last) h.0 k.0 (sym (append_assoc (entry_text f) (flat_map entry_text history) (outcome_text outcome)) ∙ e ∙ append_assoc (entry_text g) (flat_map entry_text other) (outcome_text last)) in
    let others = same_output history other outcome last h.1 k.1 first.after in
    record { entries = ap₂ (λ (x : HistoryEntry) (xs : List HistoryEntry). x ∷ xs) first.value others.entries; outcomes_are = others.outcomes_are }

-- a report is the output of a session's ending
pub report_output : (history : List HistoryEntry) (ending : Ending) → report history ending ≡ run_output history (outcomes.Ended ending)
unfolding report run_output
report_output history ending = refl

ending_of : Outcome → Ending
ending_of (outcomes.Ended ending) = ending
ending_of outcome = endings.Ok

pub record SameReport (history other : List HistoryEntry) (ending last : Ending) : Type 0 where
  pub entries : history ≡ other
  pub endings_are : ending ≡ last

-- a report determines the history and the ending
pub same_report : (history other : List HistoryEntry) (ending last : Ending) → AllByRecursion IsReported history → AllByRecursion IsReported other → report history ending ≡ report other last → SameReport history other ending last
unfolding ending_of
same_report history other ending last h k e =
    let same = same_output history other (outcomes.Ended ending) (outcomes.Ended last) h k (sym (report_output history ending) ∙ e ∙ report_output other last) in
    record { entries = same.entries; endings_are = ap ending_of same.outcomes_are }
