-- What a volume tells of itself, put together.
use Rattle.std.proofs.Common.{◌≡◌, ℕ, ◌*◌, ◌<◌, List, length, Option, Some, None, refl, sym, ap, ◌∙◌, arith}
use Rattle.std.proofs.Math.Nat.{mul-le-mul_right}
use Rattle.zd_disk.specs.Told.{WhereTold}
use Rattle.zd_disk.specs.View.{View}
use Rattle.zd_model.specs.History.{last_array}
use Rattle.zd_model.specs.Image.{Image}
use Rattle.zd_model.specs.Safe.{base_at}
use Rattle.zd_model.proofs.ArrayLaws.{length-last_array}
use Rattle.zd_state.specs.Seen.{Seen}
use Rattle.zd_volume.specs.Flights.{serves}
use Rattle.zd_volume.specs.Sets.{device_sectors}
use Rattle.zd_volume.specs.Volumes.{IsFixed, sets_of}
use Rattle.zd_volume.proofs.Choices.{some_blocks}
use Rattle.zd_volume.proofs.Images.{length-device}
use Rattle.zd_session.specs.Moving.{StandsSo}

module _ {D : Type 0} (look : D → View) (v : Seen D) (fixed : IsFixed v.plain)
    (shows : WhereTold (look v.opening).zones (λ _. (i : Image) × ((look v.disk).zones ≡ Some i)))
    (serving : v.plain.stopped ≡ None → WhereTold (look v.disk).zones (λ i.
    serves v.plain i ≡ last_array (base_at (look v.opening).zones) v.plain.history)) where
  -- as many sectors were there before the history
  based_at : v.plain.stopped ≡ None → (i : Image) → (look v.disk).zones ≡ Some i
      → length (base_at (look v.opening).zones) ≡ device_sectors (sets_of v.plain)
  based_at runs i at =
      sym (length-last_array (base_at (look v.opening).zones) v.plain.history)
      ∙ ap (λ (xs : List (List ℕ)). length xs) (sym (serving runs i at))
      ∙ length-device (sets_of v.plain) v.plain.fresh i

  some_sectors : 0 < device_sectors (sets_of v.plain)
  some_sectors =
      let chunks = fixed.sets.fits.some_chunk in
      let blocks = some_blocks (sets_of v.plain) fixed.sets in
      let up = mul-le-mul_right {m = 1} {n = v.plain.head.layout.chunks} v.plain.geometry.zone_blocks chunks in
      let all : device_sectors (sets_of v.plain) ≡ 8 * (v.plain.head.layout.chunks * v.plain.geometry.zone_blocks) = omega arith in
      omega (arith, up, blocks, all)

  showed_at : v.plain.stopped ≡ None → (i : Image) → (look v.disk).zones ≡ Some i → (o : Option Image)
      → (look v.opening).zones ≡ o → (j : Image) × ((look v.opening).zones ≡ Some j)
  showed_at runs i at (Some j) is = (j, is)
  showed_at runs i at None is =
      let none : length (base_at (look v.opening).zones) ≡ 0 = ap (λ (o : Option Image). length (base_at o)) is in
      let all = based_at runs i at in
      let some = some_sectors in
      absurd (omega (arith, none, all, some))

  pub stands : StandsSo look v
  stands = record {
    fixed = fixed;
    shows = shows;
    showed = λ runs i at. showed_at runs i at (look v.opening).zones refl;
    based = λ runs o at. (let i = shows o at in based_at runs i.0 i.1);
    serving = serving;
  }
