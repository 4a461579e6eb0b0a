-- How a line begins: letters, a space, a digit.
use Rattle.std.proofs.Common.{◌≡◌, ◌≤◌, ℕ, List, [], ◌∷◌, ◌++◌, sym, arith, ◌∙◌}
use Rattle.std.proofs.lemmas.List.{append_assoc}
use Rattle.std.specs.List.{flat_map}
use Rattle.zd_model.specs.Script.{letters_of, numbers_of, line_text}
use Rattle.zd_model.specs.Text.{numeral}
use Rattle.zd_model.specs.declared.requests.Request.{Request}
use Rattle.zd_model.specs.declared.requests.What.{What}
use Rattle.zd_model.specs.declared.requests.What.TheVariants.{Read, Write, Discard, Flush}
use Rattle.zd_model.specs.declared.requests.What.TheVariants.{ReadSectors, WriteSectors}
use Rattle.zd_model.proofs.LineLaws.{letters_plain, line_from, same_word}
use Rattle.zd_model.proofs.TextLaws.{IsDigit, head_is, numeral_head, tail_is}

record IsLetter (x : ℕ) : Type 0 where
  low : 100 ≤ x
  high : x ≤ 119

begins_with_letter : (w : What) (x : ℕ) (more rest : List ℕ) → x ∷ more ≡ letters_of w ++ rest → IsLetter x
begins_with_letter (Read b n) x more rest e = let l = head_is x 114 _ _ e in record { low = omega arith; high = omega arith }
begins_with_letter (Write b n s) x more rest e = let l = head_is x 119 _ _ e in record { low = omega arith; high = omega arith }
begins_with_letter (Discard b n) x more rest e = let l = head_is x 100 _ _ e in record { low = omega arith; high = omega arith }
begins_with_letter Flush x more rest e = let l = head_is x 102 _ _ e in record { low = omega arith; high = omega arith }
begins_with_letter (ReadSectors i n) x more rest e = let l = head_is x 114 _ _ e in record { low = omega arith; high = omega arith }
begins_with_letter (WriteSectors i n s) x more rest e = let l = head_is x 119 _ _ e in record { low = omega arith; high = omega arith }

pub no_small : (r : Request) (tail more : List ℕ) (x : ℕ) → x ≤ 99 → x ∷ more ≡ line_text r ++ tail → ⊥
no_small r tail more x small e =
    let low = (begins_with_letter r.what x more _ (e ∙ line_from r tail)).low in
    omega arith

pub no_large : (r : Request) (tail more : List ℕ) (x : ℕ) → 120 ≤ x → x ∷ more ≡ line_text r ++ tail → ⊥
no_large r tail more x large e =
    let high = (begins_with_letter r.what x more _ (e ∙ line_from r tail)).high in
    omega arith

pub third_digit : (r : Request) (tail more : List ℕ) (x z : ℕ) → (x ≡ 32 → ⊥) → x ∷ 32 ∷ z ∷ more ≡ line_text r ++ tail → IsDigit z
third_digit r tail more x z letter e =
    let numbers : List ℕ = flat_map (λ n. 32 ∷ numeral n) (numbers_of r.what) in
    let inside = (same_word (letters_of r.what) (x ∷ []) _ (z ∷ more) (letters_plain r.what) (letter, tt) (sym (line_from r tail) ∙ sym e)).after in
    numeral_head r.caller z (numbers ++ 10 ∷ tail) more (sym (append_assoc (numeral r.caller) numbers (10 ∷ tail)) ∙ inside)

-- two letters are no form's but rs and ws
pub no_letters : (r : Request) (tail more : List ℕ) → 102 ∷ 115 ∷ more ≡ line_text r ++ tail → ⊥
no_letters r tail more e = by_kind r.what _ (e ∙ line_from r tail)
  where
    by_kind : (w : What) (rest : List ℕ) → 102 ∷ 115 ∷ more ≡ letters_of w ++ 32 ∷ rest → ⊥
    by_kind (Read b n) rest f = let l = head_is 102 114 _ _ f in omega arith
    by_kind (Write b n s) rest f = let l = head_is 102 119 _ _ f in omega arith
    by_kind (Discard b n) rest f = let l = head_is 102 100 _ _ f in omega arith
    by_kind Flush rest f = let l = head_is 115 32 _ _ (tail_is 102 102 _ _ f) in omega arith
    by_kind (ReadSectors i n) rest f = let l = head_is 102 114 _ _ f in omega arith
    by_kind (WriteSectors i n s) rest f = let l = head_is 102 119 _ _ f in omega arith
