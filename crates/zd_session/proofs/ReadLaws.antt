-- A read in flight: what it has read is what the volume serves, and stays so in the words of the history.
use Rattle.std.proofs.Common.{◌≡◌, ℕ, ◌+◌, ◌-◌, ◌*◌, ◌/◌, ◌<◌, ◌≤◌, List, [], length, map, take, drop, get_or, slice_index_or, slice_range, Option, Some, refl, sym, ap, ◌∙◌, subst, arith}
use Rattle.std.proofs.Math.Nat.{mul-le-mul_right}
use Rattle.std.proofs.lemmas.List.{get_or-drop, get_or-take, get_or_default, length-drop, length-take, same_lists}
use Rattle.std.proofs.lemmas.List.FromFn.{get_or-map-range_with_len, length-map-range_with_len}
use Rattle.std.proofs.lemmas.Nat.{div-add-mod'}
use Rattle.std.specs.List.{concat, range_with_len}
use Rattle.zd_disk.specs.Told.{WhereTold}
use Rattle.zd_model.specs.Bytes.{zero_sector}
use Rattle.zd_model.specs.History.{last_array}
use Rattle.zd_model.specs.Image.{Image, run_of}
use Rattle.zd_model.specs.Requests.{block_count, first_sector, operation_of, sector_count}
use Rattle.zd_model.specs.Requests.Operation.{Reading}
use Rattle.zd_model.specs.Safe.{base_at, last_at}
use Rattle.zd_model.specs.declared.requests.Piece.{Piece}
use Rattle.zd_model.proofs.ArrayLaws.{length-last_array}
use Rattle.zd_volume.specs.Flights.{GoesOn, IsFlight, IsPieceIn, sectors_within, serves}
use Rattle.zd_volume.specs.Sets.{device_sectors}
use Rattle.zd_volume.specs.Volumes.{PlainVolume, sets_of}
use Rattle.zd_volume.specs.declared.flight.Flight.{Flight}
use Rattle.zd_disk.specs.View.{View}
use Rattle.zd_session.specs.Sessions.{AreLast, HoldsRead}

-- elements in a row, by their places
slice_each : {X : Type 0} (xs : List X) (a n : ℕ) (d : X) → a + n ≤ length xs
    → slice_range xs a (a + n) ≡ map (λ k. slice_index_or xs k d) (range_with_len a n)
slice_each {X} xs a n d inside =
    let f : ℕ → X = λ k. get_or xs k d in
    let few : a + n - a ≡ n = omega arith in
    let size : length (slice_range xs a (a + n)) ≡ n =
    (let t = length-take (a + n - a) (drop a xs) in let l = length-drop a xs in omega (arith, t, l, inside)) in
    same_lists (slice_range xs a (a + n)) (map f (range_with_len a n)) (size ∙ sym (length-map-range_with_len f a n))
    (λ k e low.
    get_or-take (a + n - a) (drop a xs) k e (omega (arith, low, size))
    ∙ get_or-drop a xs k e
    ∙ get_or_default xs (a + k) e d (omega (arith, low, size, inside))
    ∙ sym (get_or-map-range_with_len f a n k (a + k) e (omega (arith, low, size)) refl))

module _ (v : PlainVolume) (told : Option Image) (p : Piece) (inside : IsPieceIn v p)
    (based : WhereTold told (λ _. length (base_at told) ≡ device_sectors (sets_of v))) where
  within : (done : ℕ) → sectors_within p.what done ≤ sector_count p.what
  within done = omega arith

  -- its sectors are of the device
  in_device : first_sector p.what + sector_count p.what ≤ device_sectors (sets_of v)
  in_device =
      let b : ℕ = 8 * v.geometry.zone_blocks in
      let whole = div-add-mod' (first_sector p.what) b in
      let chunk = inside.chunk in
      let up = mul-le-mul_right {m = first_sector p.what / b + 1} {n = v.head.layout.chunks} b
      (let low = inside.device in omega (arith, low)) in
      let split : (first_sector p.what / b + 1) * b ≡ first_sector p.what / b * b + b = omega arith in
      let total : device_sectors (sets_of v) ≡ v.head.layout.chunks * b = omega arith in
      omega (arith, whole, chunk, up, split, total)

  -- THE LAST BYTES of its first sectors are what the volume serves
  last_served : (o : Image) → told ≡ Some o → (n : ℕ) → n ≤ sector_count p.what
      → concat (slice_range (last_array (base_at told) v.history) (first_sector p.what) (first_sector p.what + n))
      ≡ run_of (last_at (base_at told) v.history) (first_sector p.what) n
  last_served o is n few =
      ap concat (slice_each (last_array (base_at told) v.history) (first_sector p.what) n zero_sector
      (let size = length-last_array (base_at told) v.history in let all = based o is in let fits = in_device in
      omega (arith, size, all, fits, few)))

  -- A READ THAT GOES ON is one under way
  module _ (disk : Option Image) (showed : WhereTold disk (λ _. (o : Image) × (told ≡ Some o)))
      (serving : WhereTold disk (λ i. serves v i ≡ last_array (base_at told) v.history)) where
    served_last : (f : Flight) → AreLast told v.history (first_sector p.what) (sectors_within p.what f.done) f.bytes.items
        → WhereTold disk (λ i. f.bytes.items ≡ concat (slice_range (serves v i) (first_sector p.what)
        (first_sector p.what + sectors_within p.what f.done)))
    served_last f last i is =
        let o = showed i is in
        last o.0 o.1 ∙ sym (last_served o.0 o.1 (sectors_within p.what f.done) (within f.done))
        ∙ ap (λ (xs : List (List ℕ)). concat (slice_range xs (first_sector p.what)
        (first_sector p.what + sectors_within p.what f.done))) (sym (serving i is))

    flight_of : (f : Flight) → operation_of p.what ≡ Reading → f.piece ≡ p → f.done < block_count p.what
        → length f.bytes.items ≡ 512 * sectors_within p.what f.done
        → 512 * sector_count p.what ≤ length f.bytes.items + f.bytes.room
        → WhereTold disk (λ i. f.bytes.items ≡ concat (slice_range (serves v i) (first_sector p.what)
        (first_sector p.what + sectors_within p.what f.done)))
        → IsFlight v disk f
    flight_of f reads is more size room bytes =
        subst (λ (x : Piece). IsFlight v disk (record { piece = x; done = f.done; bytes = f.bytes })) (sym is) (record {
          reads = reads;
          piece = inside;
          more = more;
          read = record { size = size; bytes = bytes; room = room };
        })

    pub held_flight : (f : Flight) → operation_of p.what ≡ Reading → HoldsRead v told p f → IsFlight v disk f
    held_flight f reads holds = flight_of f reads holds.piece holds.more holds.size holds.room (served_last f holds.last)

    -- one that begins
    pub new_flight : (f : Flight) → operation_of p.what ≡ Reading → f.piece ≡ p → f.done ≡ 0 → f.bytes.items ≡ []
        → 512 * sector_count p.what ≤ f.bytes.room → IsFlight v disk f
    new_flight f reads is none empty room =
        let zero_within : sectors_within p.what f.done ≡ 0 = omega (arith, none) in
        let size : length f.bytes.items ≡ 0 = ap length empty in
        let some = inside.some in
        flight_of f reads is (omega (arith, none, some)) (omega (arith, size, zero_within)) (omega (arith, room)) (λ i at.
        empty ∙ sym (ap (λ (n : ℕ). concat (take n (drop (first_sector p.what) (serves v i))))
        (let zero_more : first_sector p.what + sectors_within p.what f.done - first_sector p.what ≡ 0 = omega (arith, zero_within) in zero_more)))

  -- WHAT IT HAS READ it holds
  module _ (now : View) (shows : WhereTold told (λ _. (i : Image) × (now.zones ≡ Some i)))
      (serving : WhereTold now.zones (λ i. serves v i ≡ last_array (base_at told) v.history)) where
    pub holds_flight : (w : PlainVolume) (x : View) (old new : Flight) → old.piece ≡ p → GoesOn v w now x old new
        → HoldsRead v told p new
    holds_flight w x old new is goes =
        let same : new.piece ≡ p = goes.run.piece ∙ is in
        let flight : IsFlight v now.zones (record { piece = p; done = new.done; bytes = new.bytes }) =
        subst (λ (y : Piece). IsFlight v now.zones (record { piece = y; done = new.done; bytes = new.bytes })) same goes.flight in
        record {
          piece = same;
          inside = inside;
          some = (let done = goes.run.done in let count = goes.run.run.some in omega (arith, done, count));
          more = flight.more;
          size = flight.read.size;
          room = flight.read.room;
          last = λ o at.
              let i = shows o at in
              flight.read.bytes i.0 i.1
              ∙ ap (λ (xs : List (List ℕ)). concat (slice_range xs (first_sector p.what)
              (first_sector p.what + sectors_within p.what new.done))) (serving i.0 i.1)
              ∙ last_served o at (sectors_within p.what new.done) (within new.done);
        }
