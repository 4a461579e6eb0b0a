-- What is left of a map, entry by entry.
use Rattle.std.proofs.Common.{◌≡◌, ◌≢◌, ℕ, ◌+◌, ◌-◌, ◌<◌, ◌≤◌, Bool, true, false, cond, not, List, length, refl, sym, ap, ap₂, ◌∙◌, subst, arith, inl, inr, count_by, zero-add}
use Rattle.std.proofs.lemmas.Bool.{cases_lt}
use Rattle.std.specs.Prelude.{IsSome, IfSome}
use Rattle.std.specs.Int.{from_bool}
use Rattle.std.specs.List.{flat_map, range_with_len}
use Rattle.zd_base.specs.Geometry.{Shape}
use Rattle.zd_base.specs.declared.layout.Layout.{Layout}
use Rattle.zd_disk.proofs.ToldLaws.{IfSome-each}
use Rattle.zd_examine.specs.Roles.{AreRoles, GivesRole, roles_with}
use Rattle.zd_examine.specs.declared.roles.Role.{Role}
use Rattle.zd_examine.proofs.RoleLaws.{beside_zone, in_disk, roles_more}
use Rattle.zd_model.specs.Faults.{has, is_right_entry}
use Rattle.zd_model.specs.Tables.{zones_of}
use Rattle.zd_model.specs.declared.metadata.MapEntry.{MapEntry}
use Rattle.zd_model.proofs.SameLaws.{same_map}
use Rattle.zd_disk.proofs.RunLaws.{count_then}
use Rattle.zd_sets.proofs.CallLaws.{passing_same}
use Rattle.zd_repair.specs.Repaired.{IsMapLeft, left_of, named_before, wrong_entries}
use Rattle.zd_repair.proofs.LeftEntries.{left_right}

-- entries that are the same name the same zones
pub named_as : (old new : ℕ → MapEntry) (k : ℕ) → ((c : ℕ) → c < k → new c ≡ old c) → named_before new k ≡ named_before old k
named_as old new k same = ap (flat_map zones_of) (same_map new old 0 k (λ c from low. same c (omega (arith, low))))

-- and give the same roles
pub roles_as : (g : Shape) (old new : ℕ → MapEntry) (k : ℕ) (roles : List Role) → ((c : ℕ) → c < k → new c ≡ old c)
    → AreRoles g old k roles → AreRoles g new k roles
roles_as g old new k roles same are = record {
  named = record {
    count = are.named.count;
    unnamed = λ z low. are.named.unnamed z low ∙ ap (λ (zs : List ℕ). not (has zs z)) (sym (named_as old new k same));
  };
  given = λ z role low at named. (
      let given = are.given z role low at named in
      (given.0, given.1, subst (λ (e : MapEntry). GivesRole z role e) (sym (same given.0 given.1)) given.2));
}

-- the entry of chunk k is what is left of the old one, and the others are as they were
module _ (g : Shape) (l : Layout) (old new : ℕ → MapEntry) (k : ℕ) (roles : List Role)
    (here : new k ≡ left_of g l (named_before old k) (old k)) (others : (c : ℕ) → c < k → new c ≡ old c) (are : AreRoles g old k roles) where
  pub right_now : is_right_entry g l (named_before new k) (new k) ≡ true
  right_now =
      ap (λ (zs : List ℕ). is_right_entry g l zs (new k)) (named_as old new k others)
      ∙ ap (is_right_entry g l (named_before old k)) here ∙ left_right g l (named_before old k) (old k)

  module _ (e : MapEntry) (is : e ≡ new k) where
    right_e : is_right_entry g l (named_before new k) e ≡ true
    right_e = ap (is_right_entry g l (named_before new k)) is ∙ right_now

    pub zone_has_role : IfSome e.zone (λ z. z < length roles)
    zone_has_role = IfSome-each e.zone (λ z. z < length roles) (λ z at. (
        let low = in_disk g l (named_before new k) e z right_e (inl at) in
        let count = are.named.count in
        omega (arith, low, count)))

    pub buffer_has_role : IfSome e.buffer (λ b. (b < length roles) × IsSome e.zone)
    buffer_has_role = IfSome-each e.buffer (λ b. (b < length roles) × IsSome e.zone) (λ b at. (
      (let low = in_disk g l (named_before new k) e b right_e (inr at) in let count = are.named.count in omega (arith, low, count)),
      beside_zone g l (named_before new k) e b right_e at,
    ))

    pub roles_now : (given : List Role) → given ≡ roles_with e.zone e.buffer roles → AreRoles g new (k + 1) given
    roles_now given with_e =
        subst (AreRoles g new (k + 1)) (sym (with_e ∙ ap (λ (x : MapEntry). roles_with x.zone x.buffer roles) is))
        (roles_more g l new k roles (roles_as g old new k roles others are) right_now)

-- a count by a test that answers the same
pub passing_as : (p q : ℕ → Bool) (k : ℕ) → ((c : ℕ) → c < k → p c ≡ q c) → count_by p (range_with_len 0 k) ≡ count_by q (range_with_len 0 k)
passing_as p q k same =
    let whole : k ≡ k - 0 = omega arith in
    ap (λ (n : ℕ). count_by p (range_with_len 0 n)) whole
    ∙ passing_same p q 0 k (λ c from low. same c low)
    ∙ ap (λ (n : ℕ). count_by q (range_with_len 0 n)) (sym whole)

-- one number more is counted
pub count_more : (p : ℕ → Bool) (k : ℕ) → count_by p (range_with_len 0 (k + 1)) ≡ count_by p (range_with_len 0 k) + cond (p k) 1 0
count_more p k =
    let all : k + 1 ≡ k + 1 - 0 = omega arith in
    let before : k - 0 ≡ k = omega arith in
    let one : k + 1 - k ≡ 1 = omega arith in
    ap (λ (n : ℕ). count_by p (range_with_len 0 n)) all
    ∙ count_then p 0 k (k + 1) (omega arith) (omega arith)
    ∙ ap₂ (λ (m n : ℕ). m + n) (ap (λ (n : ℕ). count_by p (range_with_len 0 n)) before)
    (ap (λ (n : ℕ). count_by p (range_with_len k n)) one ∙ zero-add (cond (p k) 1 0))

-- the first entries are left of the old ones, and then one more
module _ (g : Shape) (l : Layout) (first old new : ℕ → MapEntry) (k : ℕ) (left : IsMapLeft g l first old k)
    (later : (c : ℕ) → k ≤ c → old c ≡ first c)
    (here : new k ≡ left_of g l (named_before old k) (old k)) (others : (c : ℕ) → c ≢ k → new c ≡ old c) where
  before : (c : ℕ) → c ≤ k → named_before new c ≡ named_before old c
  before c low = named_as old new c (λ d less. others d (omega (arith, low, less)))

  pub left_more : IsMapLeft g l first new (k + 1)
  left_more c low = elim (cases_lt c k) [
    | inl less ↦ others c (omega (arith, less)) ∙ left c less
        ∙ ap (λ (zs : List ℕ). left_of g l zs (first c)) (sym (before c (omega (arith, less))))
    | inr same ↦
        let is : c ≡ k = omega (arith, low, same) in
        subst (λ (d : ℕ). new d ≡ left_of g l (named_before new d) (first d)) (sym is)
        (here ∙ ap₂ (left_of g l) (sym (before k (omega arith))) (later k (omega arith)))
  ]

  pub later_more : (c : ℕ) → k + 1 ≤ c → new c ≡ first c
  later_more c low = others c (omega (arith, low)) ∙ later c (omega (arith, low))

  pub wrong_more : (wrong one : ℕ) → wrong ≡ wrong_entries g l first old k
      → one ≡ cond (not (is_right_entry g l (named_before old k) (old k))) 1 0 → wrong + one ≡ wrong_entries g l first new (k + 1)
  wrong_more wrong one is test =
      ap₂ (λ (m n : ℕ). m + n)
      (is ∙ passing_as (λ c. not (is_right_entry g l (named_before old c) (first c))) (λ c. not (is_right_entry g l (named_before new c) (first c)))
      k (λ c less. ap (λ (zs : List ℕ). not (is_right_entry g l zs (first c))) (sym (before c (omega (arith, less))))))
      (test ∙ ap₂ (λ (zs : List ℕ) (e : MapEntry). cond (not (is_right_entry g l zs e)) 1 0) (sym (before k (omega arith))) (later k (omega arith)))
      ∙ sym (count_more (λ c. not (is_right_entry g l (named_before new c) (first c))) k)

pub one_if : (b : Bool) → from_bool b ≡ cond b 1 0
one_if true = refl
one_if false = refl

pub one_most : (b : Bool) (n : ℕ) → n ≡ from_bool b → n ≤ 1
one_most true n is = omega (arith, is)
one_most false n is = omega (arith, is)
