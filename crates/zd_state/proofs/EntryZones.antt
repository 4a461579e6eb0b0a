-- The zones that an entry names are zones of the disk, and only entries of chunks name any.
use Rattle.std.proofs.Common.{◌≡◌, ℕ, ◌<◌, List, length, Bool, Option, Some, None, IfSome, inl, inr, refl, ap, sym}
use Rattle.std.proofs.Common.{◌∙◌, arith}
use Rattle.zd_base.specs.Geometry.{Shape, zone_count}
use Rattle.zd_base.specs.declared.layout.Layout.{Layout}
use Rattle.zd_model.specs.Tables.{entry_of}
use Rattle.zd_model.specs.declared.metadata.MapEntry.{MapEntry}
use Rattle.zd_tables.specs.Rules.{FollowRules}
use Rattle.zd_tables.specs.Tables.{tables_in}

-- this holds of what is there
if_there : (end : ℕ) (zone : Option ℕ) → ((z : ℕ) → zone ≡ Some z → z < end) → IfSome zone (λ z. z < end)
if_there end None low = tt
if_there end (Some z) low = low z refl

module _ (g : Shape) (l : Layout) (bytes : List ℕ) (rules : FollowRules g l bytes) (c : ℕ) (e : MapEntry)
    (is : e ≡ entry_of (tables_in g l bytes) c) (z : ℕ) where
  pub zone_there : e.zone ≡ Some z → z < zone_count g
  zone_there names = (rules.map.data_zones c z (inl (ap (λ (m : MapEntry). m.zone) (sym is) ∙ names))).1

  pub buffer_there : e.buffer ≡ Some z → z < zone_count g
  buffer_there names = (rules.map.data_zones c z (inr (ap (λ (m : MapEntry). m.buffer) (sym is) ∙ names))).1

module _ (g : Shape) (l : Layout) (bytes : List ℕ) (rules : FollowRules g l bytes) (c : ℕ) (e : MapEntry)
    (is : e ≡ entry_of (tables_in g l bytes) c) (flags : List Bool) (size : length flags ≡ zone_count g) where
  pub zone_flag : IfSome e.zone (λ z. z < length flags)
  zone_flag =
      if_there (length flags) e.zone
      (λ z n. let low = zone_there g l bytes rules c e is z n in omega (arith, low, size))

  pub buffer_flag : IfSome e.buffer (λ z. z < length flags)
  buffer_flag =
      if_there (length flags) e.buffer
      (λ z n. let low = buffer_there g l bytes rules c e is z n in omega (arith, low, size))
