-- What words say.
use Rattle.std.proofs.Common.{Bool, true, false, ◌≡◌, ℕ, ◌<◌, ◌≤◌, ◌-◌, ◌^◌, List, [], ◌∷◌, ◌++◌, drop, length, replicate, subst, map, ap₂, get_or, IfNone, IfSome, Option, Some, None, Result, Ok, Err, IfOk, IsOk, refl, sym, ap, ◌∙◌, arith}
use Rattle.std.specs.Prelude.{◌≢◌, ◌↔◌, All, IsTrue, not, option_map, slice_get, is_some}
use Rattle.std.proofs.lemmas.Option.{slice_get-map, slice_get_read}
use Rattle.std.specs.Result.{result_ok}
use Rattle.std.specs.Str.{bytes_eq}
use Rattle.std.proofs.lemmas.Bool.{false≢true}
use Rattle.std.proofs.lemmas.Slice.Eq.{bytes_eq-Decides}
use Rattle.std.specs.Str.Parse.{ParsesUnsigned}
use Rattle.std.proofs.lemmas.Fmt.{parse-decimal}
use Rattle.std.proofs.lemmas.List.{drop-replicate, length-map}
use Rattle.zd_ports.specs.Words.{is_option}
use Rattle.zd_admin.specs.Words.{AsksAlone, AsksCheck, AsksRelabel, AsksRepair, AsksStatus, AsksUpgrade, IsAdminCommand, IsFormatCommand, IsLabel}
use Rattle.zd_admin.specs.declared.words.Asked.TheVariants.{Format, Check, Repair, Relabel, Show, Upgrade}
use Rattle.zd_model.specs.Text.{numeral}
use Rattle.zd_model.proofs.Decimals.{numeral_decimal}
use Rattle.zd_model.proofs.TextLaws.{same_numeral}

-- a number's text is read as the number
pub reads_numeral : {E : Type 0} (n : ℕ) (word : List ℕ) (r : Result ℕ E) → n ≤ 65536 → word ≡ numeral n → ParsesUnsigned 32 10 word r → r ≡ Ok n
reads_numeral n word r few is parses =
    let small : n < 2 ^ 64 = omega (arith, few) in
    parse-decimal 32 n word r (omega (arith, few)) small (is ∙ numeral_decimal n small) parses

-- two numbers with one text are one
pub one_number : (m n : ℕ) → numeral m ≡ numeral n → m ≡ n
one_number m n e = (same_numeral m n 32 32 [] [] (λ d. absurd (omega (arith, d.low))) (λ d. absurd (omega (arith, d.low))) (ap (λ (l : List ℕ). l ++ 32 ∷ []) e)).number

-- the six words of a list
pub six_words : {X : Type 0} (f : X → List ℕ) (ws : List X) (a b c d e g : X) → 6 ≤ length ws → length ws < 7
    → a ≡ get_or ws 0 a → b ≡ get_or ws 1 b → c ≡ get_or ws 2 c → d ≡ get_or ws 3 d → e ≡ get_or ws 4 e → g ≡ get_or ws 5 g
    → map f ws ≡ f a ∷ f b ∷ f c ∷ f d ∷ f e ∷ f g ∷ []
six_words f [] a b c d e g least most p q r s t u = absurd (omega (arith, least))
six_words f (k ∷ []) a b c d e g least most p q r s t u = absurd (omega (arith, least))
six_words f (k ∷ l ∷ []) a b c d e g least most p q r s t u = absurd (omega (arith, least))
six_words f (k ∷ l ∷ m ∷ []) a b c d e g least most p q r s t u = absurd (omega (arith, least))
six_words f (k ∷ l ∷ m ∷ n ∷ []) a b c d e g least most p q r s t u = absurd (omega (arith, least))
six_words f (k ∷ l ∷ m ∷ n ∷ o ∷ []) a b c d e g least most p q r s t u = absurd (omega (arith, least))
six_words f (k ∷ l ∷ m ∷ n ∷ o ∷ v ∷ []) a b c d e g least most p q r s t u =
    rw (p, q, r, s, t, u) refl
six_words f (k ∷ l ∷ m ∷ n ∷ o ∷ v ∷ w ∷ ws) a b c d e g least most p q r s t u = absurd (omega (arith, most))

-- the identifier that a text was read as, or that it is none
pub tried : {E : Type 0} (r : Result (List ℕ) E) (p : Option (List ℕ)) → (IsOk r ↔ ((u : List ℕ) × (p ≡ Some u))) → IfOk r (λ u. Some u ≡ p)
    → result_ok r ≡ p
tried (Ok u) p ok bytes = bytes
tried (Err e) None ok bytes = refl
tried (Err e) (Some u) ok bytes = absurd (false≢true (ok.1 (u, refl)))

not_true : (b : Bool) → not b ≡ true → b ≡ false
not_true true h = sym h
not_true false h = refl

pub equal : (xs ys : List ℕ) (r : Bool) → r ≡ not (bytes_eq xs ys) → r ≡ false → xs ≡ ys
equal xs ys r is e = (bytes_eq-Decides xs ys).0 (by (bytes_eq xs ys) (sym is ∙ e))
  where
    by : (b : Bool) → not b ≡ false → b ≡ true
    by true h = refl
    by false h = sym h

pub not_equal : (xs ys : List ℕ) (r : Bool) → r ≡ not (bytes_eq xs ys) → r ≡ true → xs ≡ ys → ⊥
not_equal xs ys r is e same = by (bytes_eq xs ys) ((bytes_eq-Decides xs ys).1 same) (sym is ∙ e)
  where
    by : (b : Bool) → b ≡ true → not b ≡ true → ⊥
    by true h k = false≢true k
    by false h k = false≢true h

pub ok_same : {E : Type 0} (m n : ℕ) → ◌≡◌ {A = Result ℕ E} (Ok m) (Ok n) → m ≡ n
ok_same m n e = cc

-- a command that formats has six words
pub has_six : {X : Type 0} (f : X → List ℕ) (ws : List X) → IsFormatCommand (map f ws) → length ws ≡ 6
has_six {X} f ws h = sym (length-map {A = X} {B = List ℕ} ws f) ∙ ap length h.2.spelled

pub third : (a b c p q r : List ℕ) (more rest : List (List ℕ)) → ◌≡◌ {A = List (List ℕ)} (a ∷ b ∷ c ∷ more) (p ∷ q ∷ r ∷ rest) → c ≡ r
third a b c p q r more rest e = cc

pub where_none : {T : Type 0} (o : Option T) (P : Type 0) → P → IfNone o P
where_none None P h = h
where_none (Some x) P h = tt

pub four_words : (a b c d e g p q r s : List ℕ) → a ≡ p → b ≡ q → c ≡ r → d ≡ s
    → ◌≡◌ {A = List (List ℕ)} (a ∷ b ∷ c ∷ d ∷ e ∷ g ∷ []) (p ∷ q ∷ r ∷ s ∷ e ∷ g ∷ [])
four_words a b c d e g p q r s h i j k = cc

-- the last word
pub last_word : {X : Type 0} (f : X → List ℕ) (ws : List X) (x : X) → 1 ≤ length ws → x ≡ get_or ws (length ws - 1) x
    → slice_get (map f ws) (length (map f ws) - 1) ≡ Some (f x)
last_word {X} f ws x some is =
    let count = length-map {A = X} {B = List ℕ} ws f in
    ap (slice_get (map f ws)) (ap (λ n. n - 1) count)
    ∙ slice_get-map f ws (length ws - 1)
    ∙ ap (option_map f) (slice_get_read ws (length ws) (length ws - 1) x refl (omega arith) is)

first_word : (a b p q : List ℕ) → ◌≡◌ {A = List (List ℕ)} (a ∷ b ∷ []) (p ∷ q ∷ []) → a ≡ p
first_word a b p q e = cc

second : (a b p q : List ℕ) → ◌≡◌ {A = List (List ℕ)} (a ∷ b ∷ []) (p ∷ q ∷ []) → b ≡ q
second a b p q e = cc

-- two words
pub two_words : {X : Type 0} (f : X → List ℕ) (ws : List X) (a b : X) → 2 ≤ length ws → length ws < 3
    → a ≡ get_or ws 0 a → b ≡ get_or ws 1 b → map f ws ≡ f a ∷ f b ∷ []
two_words f [] a b least most p q = absurd (omega (arith, least))
two_words f (k ∷ []) a b least most p q = absurd (omega (arith, least))
two_words f (k ∷ l ∷ []) a b least most p q = rw (p, q) refl
two_words f (k ∷ l ∷ m ∷ ws) a b least most p q = absurd (omega (arith, most))

-- two words are an option and an image where they are spelled so
pub are_alone : (option : List ℕ) (words : List (List ℕ)) (first image : List ℕ) (starts : Bool) → words ≡ first ∷ image ∷ []
    → first ≡ option → starts ≡ is_option image → IsTrue (not starts) ↔ AsksAlone option words
are_alone option words first image starts spelled named is = (there, back)
  where
    there : IsTrue (not starts) → AsksAlone option words
    there path = record {
      image = image;
      spelled = spelled ∙ ap (λ (w : List ℕ). w ∷ image ∷ []) named;
      path = sym is ∙ not_true starts path;
    }

    back : AsksAlone option words → IsTrue (not starts)
    back h =
        let same = second first image option h.image (sym spelled ∙ h.spelled) in
        ap not (is ∙ ap is_option same ∙ h.path)

-- two words of which the first is another are not
pub are_not_alone : (option : List ℕ) (words : List (List ℕ)) (first image : List ℕ) (same : Bool) → words ≡ first ∷ image ∷ []
    → same ≡ false → (first ≡ option → ⊥) → IsTrue same ↔ AsksAlone option words
are_not_alone option words first image same spelled differs other = (
  λ yes. absurd (false≢true (sym differs ∙ yes)),
  λ h. absurd (other (first_word first image option h.image (sym spelled ∙ h.spelled))),
)

pub where_some : {T : Type 0} (o : Option T) (P : T → Type 0) → is_some o ≡ true → IfSome o P → (x : T) × P x
where_some None P e h = absurd (false≢true e)
where_some (Some x) P e h = (x, h)

-- where nothing was found for one reason, it wasn't for another
pub none_as : {T P Q : Type 0} (o : Option T) → (P → Q) → IfNone o P → IfNone o Q
none_as None f h = f h
none_as (Some x) f h = tt

pub not_so : {P : Type 0} (b : Bool) → b ≡ false → (IsTrue b ↔ P) → P → ⊥
not_so b e h p = false≢true (sym e ∙ h.1 p)

-- words that ask for nothing are no command
pub no_command : (words : List (List ℕ)) → (AsksCheck words → ⊥) → (AsksRepair words → ⊥) → (AsksStatus words → ⊥)
    → ((label : List ℕ) → AsksRelabel words label → ⊥) → ((volume : List ℕ) → AsksUpgrade words volume → ⊥)
    → (IsFormatCommand words → ⊥) → IsAdminCommand words → ⊥
no_command words check repair status relabel upgrade format (Format reserved volume, asks) = format (reserved, volume, asks)
no_command words check repair status relabel upgrade format (Check, asks) = check asks
no_command words check repair status relabel upgrade format (Show, asks) = status asks
no_command words check repair status relabel upgrade format (Repair, asks) = repair asks
no_command words check repair status relabel upgrade format (Relabel label, asks) = relabel label asks
no_command words check repair status relabel upgrade format (Upgrade volume, asks) = upgrade volume asks

-- a label's bytes, and zeros behind them
pub is_label_word : (word bytes copied : List ℕ) → bytes ≡ word → (length bytes ≤ 32) × All (λ b. b ≢ 0) bytes → copied ≡ bytes
    → IsLabel word (copied ++ drop (length bytes) (replicate 32 0))
is_label_word word bytes copied is label same = record {
  short = subst (λ (w : List ℕ). length w ≤ 32) is label.0;
  text = subst (λ (w : List ℕ). All (λ b. b ≢ 0) w) is label.1;
  value = ap₂ (λ (v w : List ℕ). v ++ w) (same ∙ is) (drop-replicate (length bytes) 32 0 ∙ ap (λ (w : List ℕ). replicate (32 - length w) 0) is);
}
