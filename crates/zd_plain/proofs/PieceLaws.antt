-- The pieces of requests, and of plans that grow.
use Rattle.std.proofs.Common.{◌≡◌, ℕ, zero, suc, ◌+◌, ◌*◌, false, Bool, Some, List, [], ◌∷◌, ◌++◌, map, take, refl, sym, ap, ◌∙◌, append_assoc, add-one, arith}
use Rattle.std.proofs.lemmas.List.{append-nil}
use Rattle.std.specs.List.{range_with_len, enumerate_from, flat_map, slice_get}
use Rattle.zd_model.specs.Pieces.{part_of, parts_of, chunks_touched, pieces_of_request, pieces_of}
use Rattle.zd_model.specs.Plain.{ends_past}
use Rattle.zd_model.specs.declared.requests.Request.{Request}
use Rattle.zd_model.specs.declared.requests.Piece.{Piece}
use Rattle.zd_model.specs.declared.requests.What.{What}
use Rattle.zd_model.proofs.CutLaws.{parts_within}
use Rattle.zd_plain.specs.Cuts.{piece_at}

-- the numbers of a run beside what is made of them
numbered : {X Y : Type 0} (f : ℕ → X) (h : ℕ × X → Y) (k n : ℕ) → map h (enumerate_from k (map f (range_with_len k n))) ≡ map (λ i. h (i, f i)) (range_with_len k n)
numbered f h k zero = refl
numbered f h k (suc n) = ap (λ ys. h (k, f k) ∷ ys) (numbered f h (k + 1) n)

-- the pieces of a request that doesn't end past the device
pub pieces_within : (z blocks n : ℕ) (r : Request) → ends_past (8 * blocks) r.what ≡ false → map (piece_at z n r) (range_with_len 0 (chunks_touched z r.what)) ≡ pieces_of_request z blocks (n, r)
pieces_within z blocks n r within =
    let of_part : Bool → ℕ × What → Piece = λ b p. record { caller = r.caller; request = n; piece = p.0; what = p.1; range = b } in
    let count : ℕ = chunks_touched z r.what in
    sym (
    ap (λ b. map (of_part b) (enumerate_from 0 (parts_of z blocks r.what))) within
    ∙ ap (λ parts. map (of_part false) (enumerate_from 0 parts)) (parts_within z blocks r.what within)
    ∙ numbered (part_of z r.what) (of_part false) 0 count
    )

numbered_suc : {X Y : Type 0} (f : ℕ × X → List Y) (k : ℕ) (xs : List X) (i : ℕ) (x : X) → slice_get xs i ≡ Some x → flat_map f (enumerate_from k (take (suc i) xs)) ≡ flat_map f (enumerate_from k (take i xs)) ++ f (k + i, x)
numbered_suc f k [] i x here = let f : ⊥ = cc in absurd f
numbered_suc f k (y ∷ xs) zero x here =
    let same : y ≡ x = cc in
    let place : k ≡ k + 0 = omega arith in
    append-nil (f (k, y)) ∙ ap (λ z. f (k, z)) same ∙ ap (λ n. f (n, x)) place
numbered_suc f k (y ∷ xs) (suc i) x here =
    let place : k + 1 + i ≡ k + suc i = omega arith in
    ap (λ ys. f (k, y) ++ ys) (numbered_suc f (k + 1) xs i x here)
    ∙ sym (append_assoc (f (k, y)) (flat_map f (enumerate_from (k + 1) (take i xs))) (f (k + 1 + i, x)))
    ∙ ap (λ n. f (k, y) ++ flat_map f (enumerate_from (k + 1) (take i xs)) ++ f (n, x)) place

-- the pieces of a plan that has one request more
pub pieces_more : (z blocks : ℕ) (plan : List Request) (i : ℕ) (r : Request) → slice_get plan i ≡ Some r → pieces_of z blocks (take i plan) ++ pieces_of_request z blocks (i + 1, r) ≡ pieces_of z blocks (take (i + 1) plan)
pieces_more z blocks plan i r here =
    let place : i + 1 ≡ 1 + i = omega arith in
    ap (λ n. pieces_of z blocks (take i plan) ++ pieces_of_request z blocks (n, r)) place
    ∙ sym (numbered_suc (pieces_of_request z blocks) 1 plan i r here)
    ∙ ap (λ n. pieces_of z blocks (take n plan)) (sym (add-one i))
