-- A history with one more entry.
use Rattle.std.proofs.Common.{◌≡◌, ℕ, ◌⊎◌, Bool, true, false, cond, ◌||◌, List, [], ◌∷◌, ◌++◌, length, refl, sym, ap, ap₂, ◌∙◌, subst, inl, inr, slice_index_or}
use Rattle.std.specs.List.{AllByRecursion, list_any}
use Rattle.zd_model.specs.Bytes.{zero_sector}
use Rattle.zd_model.specs.Plain.{ends_past}
use Rattle.zd_model.specs.History.{entry_after, last_array, IsFailedFlush, MayFail, Answers, AllAnswer}
use Rattle.zd_model.specs.Stops.{is_acknowledged, flushed, unflushed, Puts, SomePuts, MayHold}
use Rattle.zd_model.specs.Requests.{Operation, operation_of}
use Rattle.zd_model.specs.Requests.Operation.{Reading, Writing, Discarding, Flushing}
use Rattle.zd_model.specs.Plain.Answer.{Fault}
use Rattle.zd_model.specs.History.{HistoryEntry}

pub last_array-push : (base : List (List ℕ)) (history : List HistoryEntry) (e : HistoryEntry) → last_array base (history ++ e ∷ []) ≡ entry_after (last_array base history) e.what e.reply
last_array-push base [] e = refl
last_array-push base (f ∷ history) e = last_array-push (entry_after base f.what f.reply) history e

-- an entry with this reply may stand before e
abbrev pub Allows : Operation → HistoryEntry → Type 0
Allows Reading e = Unit {0}
Allows Writing e = ⊥
Allows Discarding e = Unit {0}
Allows Flushing e = IsFailedFlush e

abbrev pub IsOpenTo : HistoryEntry → HistoryEntry → Type 0
IsOpenTo e f = f.reply ≡ Fault → Allows (operation_of f.what) e

all-push : {X : Type 0} (P : X → Type 0) (xs : List X) (x : X) → AllByRecursion P xs → P x → AllByRecursion P (xs ++ x ∷ [])
all-push P [] x h p = (p, tt)
all-push P (y ∷ xs) x h p = (h.0, all-push P xs x h.1 p)

may_fail-push : (operation : Operation) (later : List HistoryEntry) (e : HistoryEntry) → Allows operation e
    → MayFail operation later → MayFail operation (later ++ e ∷ [])
may_fail-push Reading later e a h = tt
may_fail-push Writing later e a h = absurd a
may_fail-push Discarding later e a h = h
may_fail-push Flushing later e a h = all-push IsFailedFlush later e h a

pub answers-push : (array : List (List ℕ)) (history : List HistoryEntry) (e : HistoryEntry) → AllByRecursion (IsOpenTo e) history → AllAnswer array history → Answers (last_array array history) e [] → AllAnswer array (history ++ e ∷ [])
answers-push array [] e open_to h answer = (answer, tt)
answers-push array (f ∷ history) e open_to h answer = (
  elim h.0 [ inl plain ↦ inl plain | inr failed ↦ inr (failed.0, failed.1, may_fail-push (operation_of f.what) history e (open_to.0 failed.0) failed.2) ],
  answers-push (entry_after array f.what f.reply) history e open_to.1 h.1 answer,
)

-- an entry after call k changes nothing that was flushed then
list_any-push : {X : Type 0} (p : X → Bool) (xs : List X) (x : X) → p x ≡ false → list_any p (xs ++ x ∷ []) ≡ list_any p xs
list_any-push p [] x h = rw h refl
list_any-push p (y ∷ xs) x h = ap (λ b. p y || b) (list_any-push p xs x h)

flushed-push : (k : ℕ) (history : List HistoryEntry) (e : HistoryEntry) → is_acknowledged k e ≡ false → flushed k (history ++ e ∷ []) ≡ flushed k history
flushed-push k [] e h = rw h refl
flushed-push k (f ∷ history) e h = ap₂ (λ (b : Bool) (rest : List HistoryEntry). cond b (f ∷ rest) []) (list_any-push (is_acknowledged k) (f ∷ history) e h) (flushed-push k history e h)

unflushed-push : (k : ℕ) (history : List HistoryEntry) (e : HistoryEntry) → is_acknowledged k e ≡ false → unflushed k (history ++ e ∷ []) ≡ unflushed k history ++ e ∷ []
unflushed-push k [] e h = rw h refl
unflushed-push k (f ∷ history) e h =
    ap₂ (λ (b : Bool) (rest : List HistoryEntry). cond b rest (f ∷ (history ++ e ∷ []))) (list_any-push (is_acknowledged k) (f ∷ history) e h) (unflushed-push k history e h) ∙ outside (list_any (is_acknowledged k) (f ∷ history))
  where
    outside : (b : Bool) → cond b (unflushed k history ++ e ∷ []) (f ∷ (history ++ e ∷ [])) ≡ cond b (unflushed k history) (f ∷ history) ++ e ∷ []
    outside true = refl
    outside false = refl

-- what the entry puts into sector i
abbrev pub Adds : ℕ → ℕ → ℕ → List ℕ → HistoryEntry → Type 0
Adds sectors k i value e = (ends_past sectors e.what ≡ false) × Puts k i value e

some_puts-push : (sectors k i : ℕ) (value : List ℕ) (history : List HistoryEntry) (e : HistoryEntry) → SomePuts sectors k i value (history ++ e ∷ []) → SomePuts sectors k i value history ⊎ Adds sectors k i value e
some_puts-push sectors k i value [] e h = elim h [ inl a ↦ inr a | inr none ↦ absurd none ]
some_puts-push sectors k i value (f ∷ history) e h = elim h [ inl a ↦ inl (inl a) | inr others ↦ elim (some_puts-push sectors k i value history e others) [ inl old ↦ inl (inr old) | inr a ↦ inr a ] ]

some_puts-old : (sectors k i : ℕ) (value : List ℕ) (history : List HistoryEntry) (e : HistoryEntry) → SomePuts sectors k i value history → SomePuts sectors k i value (history ++ e ∷ [])
some_puts-old sectors k i value [] e h = absurd h
some_puts-old sectors k i value (f ∷ history) e h = elim h [ inl a ↦ inl a | inr others ↦ inr (some_puts-old sectors k i value history e others) ]

some_puts-new : (sectors k i : ℕ) (value : List ℕ) (history : List HistoryEntry) (e : HistoryEntry) → Adds sectors k i value e → SomePuts sectors k i value (history ++ e ∷ [])
some_puts-new sectors k i value [] e a = inl a
some_puts-new sectors k i value (f ∷ history) e a = inr (some_puts-new sectors k i value history e a)

-- an entry that is no flush acknowledged at k only adds what it puts
pub may_hold-push : (base : List (List ℕ)) (history : List HistoryEntry) (e : HistoryEntry) (k i : ℕ) (value : List ℕ) → is_acknowledged k e ≡ false → MayHold base (history ++ e ∷ []) k i value → MayHold base history k i value ⊎ Adds (length base) k i value e
may_hold-push base history e k i value late h =
    elim h [
      | inl flush ↦ inl (inl (flush ∙ ap (λ xs. slice_index_or (last_array base xs) i zero_sector) (flushed-push k history e late)))
      | inr puts ↦ elim (some_puts-push (length base) k i value (unflushed k history) e (subst (SomePuts (length base) k i value) (unflushed-push k history e late) puts)) [ inl old ↦ inl (inr old) | inr a ↦ inr a ]
    ]

pub may_hold-old : (base : List (List ℕ)) (history : List HistoryEntry) (e : HistoryEntry) (k i : ℕ) (value : List ℕ) → is_acknowledged k e ≡ false → MayHold base history k i value → MayHold base (history ++ e ∷ []) k i value
may_hold-old base history e k i value late h =
    elim h [
      | inl flush ↦ inl (flush ∙ sym (ap (λ xs. slice_index_or (last_array base xs) i zero_sector) (flushed-push k history e late)))
      | inr puts ↦ inr (subst (SomePuts (length base) k i value) (sym (unflushed-push k history e late)) (some_puts-old (length base) k i value (unflushed k history) e puts))
    ]

pub may_hold-new : (base : List (List ℕ)) (history : List HistoryEntry) (e : HistoryEntry) (k i : ℕ) (value : List ℕ) → is_acknowledged k e ≡ false → Adds (length base) k i value e → MayHold base (history ++ e ∷ []) k i value
may_hold-new base history e k i value late a = inr (subst (SomePuts (length base) k i value) (sym (unflushed-push k history e late)) (some_puts-new (length base) k i value (unflushed k history) e a))
