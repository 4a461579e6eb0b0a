-- The line of an entry, as it is written field by field.
use Rattle.std.proofs.Common.{◌≡◌, ℕ, List, [], ◌∷◌, ◌++◌, map, refl, append_assoc}
use Rattle.std.specs.Prelude.{codes}
use Rattle.std.specs.List.{join_with_byte}
use Rattle.zd_model.specs.History.{HistoryEntry}
use Rattle.zd_model.specs.Report.{reply_text, entry_text}
use Rattle.zd_model.specs.Script.{letters_of, numbers_of}
use Rattle.zd_model.specs.Text.{numeral}
use Rattle.zd_model.specs.declared.requests.What.{What}
use Rattle.zd_model.specs.declared.requests.What.TheVariants.{Read, Write, Discard, Flush}
use Rattle.zd_model.specs.declared.requests.What.TheVariants.{ReadSectors, WriteSectors}
use Rattle.zd_report.specs.Fields.{what_text}

two : (t c q p l r a b n : List ℕ) → t ++ (join_with_byte 32 (c ∷ q ∷ p ∷ l ∷ b ∷ n ∷ r ∷ (64 ∷ a) ∷ []) ++ (10 ∷ []))
    ≡ (((((((t ++ (c ++ 32 ∷ [])) ++ (q ++ 32 ∷ [])) ++ (p ++ 32 ∷ [])) ++ (l ++ 32 ∷ ((b ++ 32 ∷ []) ++ ((n ++ 32 ∷ []) ++ [])))) ++ r) ++ 32 ∷ 64 ∷ []) ++ a) ++ 10 ∷ []
two t c q p l r a b n = simp append_assoc refl

three : (t c q p l r a b n s : List ℕ) → t ++ (join_with_byte 32 (c ∷ q ∷ p ∷ l ∷ b ∷ n ∷ s ∷ r ∷ (64 ∷ a) ∷ []) ++ (10 ∷ []))
    ≡ (((((((t ++ (c ++ 32 ∷ [])) ++ (q ++ 32 ∷ [])) ++ (p ++ 32 ∷ [])) ++ (l ++ 32 ∷ ((b ++ 32 ∷ []) ++ ((n ++ 32 ∷ []) ++ ((s ++ 32 ∷ []) ++ []))))) ++ r) ++ 32 ∷ 64 ∷ []) ++ a) ++ 10 ∷ []
three t c q p l r a b n s = simp append_assoc refl

none : (t c q p l r a : List ℕ) → t ++ (join_with_byte 32 (c ∷ q ∷ p ∷ l ∷ r ∷ (64 ∷ a) ∷ []) ++ (10 ∷ []))
    ≡ (((((((t ++ (c ++ 32 ∷ [])) ++ (q ++ 32 ∷ [])) ++ (p ++ 32 ∷ [])) ++ (l ++ 32 ∷ [])) ++ r) ++ 32 ∷ 64 ∷ []) ++ a) ++ 10 ∷ []
none t c q p l r a = simp append_assoc refl

-- the line of an entry, behind what was written before it
pub entry_line : (e : HistoryEntry) (t : List ℕ) → t ++ entry_text e
    ≡ (((((((t ++ (numeral e.caller ++ 32 ∷ [])) ++ (numeral e.request ++ 32 ∷ [])) ++ (numeral e.piece ++ 32 ∷ [])) ++ what_text e.what) ++ reply_text e.what e.reply) ++ 32 ∷ 64 ∷ []) ++ numeral e.at) ++ 10 ∷ []
unfolding entry_text
entry_line e t = by_kind e.what
  where
    by_kind : (w : What)
        → t ++ (join_with_byte 32 (numeral e.caller ∷ numeral e.request ∷ numeral e.piece ∷ letters_of w ∷ map numeral (numbers_of w) ++ reply_text w e.reply ∷ (codes "@" ++ numeral e.at) ∷ []) ++ codes "\n")
        ≡ (((((((t ++ (numeral e.caller ++ 32 ∷ [])) ++ (numeral e.request ++ 32 ∷ [])) ++ (numeral e.piece ++ 32 ∷ [])) ++ what_text w) ++ reply_text w e.reply) ++ 32 ∷ 64 ∷ []) ++ numeral e.at) ++ 10 ∷ []
    by_kind (Read b n) = two t (numeral e.caller) (numeral e.request) (numeral e.piece) (codes "r") (reply_text (Read b n) e.reply) (numeral e.at) (numeral b) (numeral n)
    by_kind (Write b n s) = three t (numeral e.caller) (numeral e.request) (numeral e.piece) (codes "w") (reply_text (Write b n s) e.reply) (numeral e.at) (numeral b) (numeral n) (numeral s)
    by_kind (Discard b n) = two t (numeral e.caller) (numeral e.request) (numeral e.piece) (codes "d") (reply_text (Discard b n) e.reply) (numeral e.at) (numeral b) (numeral n)
    by_kind Flush = none t (numeral e.caller) (numeral e.request) (numeral e.piece) (codes "f") (reply_text Flush e.reply) (numeral e.at)
    by_kind (ReadSectors i n) = two t (numeral e.caller) (numeral e.request) (numeral e.piece) (codes "rs") (reply_text (ReadSectors i n) e.reply) (numeral e.at) (numeral i) (numeral n)
    by_kind (WriteSectors i n s) = three t (numeral e.caller) (numeral e.request) (numeral e.piece) (codes "ws") (reply_text (WriteSectors i n s) e.reply) (numeral e.at) (numeral i) (numeral n) (numeral s)
