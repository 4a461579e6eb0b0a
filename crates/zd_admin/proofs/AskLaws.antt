-- Words ask for one thing.
use Rattle.std.proofs.Common.{◌≡◌, ℕ, ◌-◌, List, [], ◌∷◌, ◌++◌, get_or, length, replicate, refl, sym, ap, ap₂, ◌∙◌, arith}
use Rattle.uuid.specs.Text.{parsed}
use Rattle.zd_disk.proofs.ToldLaws.{Some-same}
use Rattle.zd_admin.proofs.WordLaws.{one_number, third}
use Rattle.zd_admin.specs.Words.{Asks, AsksFormat, AsksRelabel, AsksUpgrade, AsksWith}
use Rattle.zd_admin.specs.declared.words.Asked.{Asked}
use Rattle.zd_admin.specs.declared.words.Asked.TheVariants.{Format, Check, Repair, Relabel, Show, Upgrade}

-- the fifth letter of the first word, which tells all commands apart
abbrev letter : List (List ℕ) → ℕ
letter words = get_or (get_or words 0 []) 4 0

abbrev letter_of : Asked → ℕ
letter_of (Format reserved volume) = 114
letter_of Check = 101
letter_of Repair = 112
letter_of Show = 97
letter_of (Relabel label) = 108
letter_of (Upgrade volume) = 103

letter_is : (words : List (List ℕ)) (asked : Asked) → Asks words asked → letter words ≡ letter_of asked
letter_is words (Format reserved volume) asks = ap letter asks.spelled
letter_is words Check asks = ap letter asks.spelled
letter_is words Repair asks = ap letter asks.spelled
letter_is words Show asks = ap letter asks.spelled
letter_is words (Relabel label) asks = ap letter asks.1.spelled
letter_is words (Upgrade volume) asks = ap letter asks.1.spelled

one_letter : (words : List (List ℕ)) (a b : Asked) → Asks words a → Asks words b → letter_of a ≡ letter_of b
one_letter words a b asks other = sym (letter_is words a asks) ∙ letter_is words b other

fifth : (a b c d e g p q r s t u : List ℕ) → ◌≡◌ {A = List (List ℕ)} (a ∷ b ∷ c ∷ d ∷ e ∷ g ∷ []) (p ∷ q ∷ r ∷ s ∷ t ∷ u ∷ []) → e ≡ t
fifth a b c d e g p q r s t u h = cc

one_format_asked : (words : List (List ℕ)) (r s : ℕ) (v w : List ℕ) → AsksFormat words r v → AsksFormat words s w
    → Format r v ≡ Format s w
one_format_asked words r s v w a b =
    let same = sym a.spelled ∙ b.spelled in
    ap₂ (λ (n : ℕ) (id : List ℕ). Format n id) (one_number r s (third _ _ _ _ _ _ _ _ same))
    (Some-same v w (sym a.identifier ∙ ap parsed (fifth _ _ _ _ _ _ _ _ _ _ _ _ same) ∙ b.identifier))

third_of : (a b c d p q r s : List ℕ) → ◌≡◌ {A = List (List ℕ)} (a ∷ b ∷ c ∷ d ∷ []) (p ∷ q ∷ r ∷ s ∷ []) → c ≡ r
third_of a b c d p q r s h = cc

one_value : (first option v w : List ℕ) (words : List (List ℕ)) → AsksWith first option v words → AsksWith first option w words → v ≡ w
one_value first option v w words a b = third_of _ _ _ _ _ _ _ _ (sym a.spelled ∙ b.spelled)

one_label : (words : List (List ℕ)) (l m : List ℕ) → AsksRelabel words l → AsksRelabel words m → l ≡ m
one_label words l m a b =
    a.2.value ∙ ap (λ (w : List ℕ). w ++ replicate (32 - length w) 0) (one_value _ _ a.0 b.0 words a.1 b.1) ∙ sym b.2.value

one_volume : (words : List (List ℕ)) (v w : List ℕ) → AsksUpgrade words v → AsksUpgrade words w → v ≡ w
one_volume words v w a b = Some-same v w (sym a.2 ∙ ap parsed (one_value _ _ a.0 b.0 words a.1 b.1) ∙ b.2)

pub asked_once : (words : List (List ℕ)) (a b : Asked) → Asks words a → Asks words b → a ≡ b
asked_once words (Format r v) (Format s w) a b = one_format_asked words r s v w a b
asked_once words (Format r v) other a b = absurd (let e = one_letter words (Format r v) other a b in omega (arith, e))
asked_once words Check Check a b = refl
asked_once words Check other a b = absurd (let e = one_letter words Check other a b in omega (arith, e))
asked_once words Repair Repair a b = refl
asked_once words Repair other a b = absurd (let e = one_letter words Repair other a b in omega (arith, e))
asked_once words Show Show a b = refl
asked_once words Show other a b = absurd (let e = one_letter words Show other a b in omega (arith, e))
asked_once words (Relabel l) (Relabel m) a b = ap (λ (x : List ℕ). Relabel x) (one_label words l m a b)
asked_once words (Relabel l) other a b = absurd (let e = one_letter words (Relabel l) other a b in omega (arith, e))
asked_once words (Upgrade v) (Upgrade w) a b = ap (λ (x : List ℕ). Upgrade x) (one_volume words v w a b)
asked_once words (Upgrade v) other a b = absurd (let e = one_letter words (Upgrade v) other a b in omega (arith, e))
