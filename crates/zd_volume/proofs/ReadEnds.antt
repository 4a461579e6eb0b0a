-- A read after a run: it goes on, or its piece is answered.
use Rattle.std.proofs.Common.{◌≡◌, ℕ, ◌+◌, ◌-◌, ◌*◌, ◌<◌, ◌≤◌, [], length, sym, ap, ◌∙◌, subst, arith}
use Rattle.std.specs.List.{concat, slice_range}
use Rattle.zd_model.specs.Plain.{answer_in_range, reply_within}
use Rattle.zd_model.specs.Plain.Answer.{Got}
use Rattle.zd_model.specs.Requests.{Operation, block_count, first_sector, operation_of, sector_count}
use Rattle.zd_model.specs.Requests.Operation.{Reading}
use Rattle.zd_model.specs.declared.requests.Piece.{Piece}
use Rattle.zd_disk.specs.Told.{WhereTold}
use Rattle.zd_disk.specs.View.{View}
use Rattle.zd_volume.specs.Flights.{EndsRead, IsFlight, IsPieceIn, IsRunOfRead, ReadsRun, sectors_within, serves, with_entry}
use Rattle.zd_volume.specs.Volumes.{PlainVolume}
use Rattle.zd_volume.specs.declared.flight.Flight.{Flight}
use Rattle.zd_volume.proofs.FlightLaws.{all_within}

module _ (v : PlainVolume) (u x : View) (old new : Flight) (is : IsFlight v u.zones old)
    (read : ReadsRun v u x old new) where
  within : new.done ≤ block_count old.piece.what
  within = (let i = read.run.inside in let d = read.done in omega (arith, i, d))

  -- blocks are left
  pub goes_on : new.done < block_count old.piece.what → IsFlight v u.zones new
  goes_on more = record {
    reads = subst (λ (p : Piece). operation_of p.what ≡ Reading) (sym read.piece) is.reads;
    piece = subst (IsPieceIn v) (sym read.piece) is.piece;
    more = (let same = ap (λ (p : Piece). block_count p.what) read.piece in omega (arith, more, same));
    read = read.read;
  }

  -- none is
  module _ (last : block_count old.piece.what ≤ new.done) where
    all : sectors_within new.piece.what new.done ≡ sector_count old.piece.what
    all =
        let d : new.done ≡ block_count old.piece.what = omega (arith, last, within) in
        ap (λ (p : Piece). sectors_within p.what new.done) read.piece
        ∙ ap (sectors_within old.piece.what) d
        ∙ all_within 0 old.piece.what

    pub size_all : length new.bytes.items ≡ 512 * sector_count old.piece.what
    size_all = (let s = read.read.size in let a = all in omega (arith, s, a))

    pub reply_all : WhereTold u.zones (λ i. Got new.bytes.items ≡ reply_within (serves v i) old.piece.what)
    reply_all i there =
        ap Got (read.read.bytes i there
        ∙ ap (λ (n : ℕ). concat (slice_range (serves v i) (first_sector new.piece.what)
        (first_sector new.piece.what + n))) all
        ∙ ap (λ (p : Piece). concat (slice_range (serves v i) (first_sector p.what)
        (first_sector p.what + sector_count old.piece.what)))
        read.piece)
        ∙ ap (λ (o : Operation). answer_in_range o (concat (slice_range (serves v i) (first_sector old.piece.what)
        (first_sector old.piece.what + sector_count old.piece.what)))) (sym is.reads)

    pub ends_read : (w : PlainVolume) (given : Flight) → w ≡ with_entry v old.piece (Got new.bytes.items)
        → given.piece ≡ old.piece → given.bytes.items ≡ [] → EndsRead v w u x old given
    ends_read w given volume piece emptied = record {
      zone = read.zone;
      run =
          let d = read.done in
          let i = within in
          subst (IsRunOfRead v old read.zone)
          (let e : read.count ≡ block_count old.piece.what - old.done = omega (arith, d, last, i) in e) read.run;
      calls = read.calls;
      bytes = new.bytes.items;
      size = size_all;
      reply = reply_all;
      volume = volume;
      piece = piece;
      emptied = emptied;
    }
