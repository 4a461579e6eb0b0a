use Rattle.std.proofs.Common.{◌∙◌, sym}
use Rattle.std.specs.Prelude.{is_some}
use Rattle.zd_session.proofs.StandingLaws.{lacks_place, not_is}
use Rattle.zd_session.proofs.asked.AskedHasStanding.lacks_zone.Goals as goal

pub returns : goal.returns
returns g c =
    not_is c.is_none.result (is_some c.place.result) (sym c.is_none.ensures)
    ∙ lacks_place c.args.self.now.volume.now.plain c.args.piece.now c.place.result c.requires.writes c.requires.in_range
    c.place.ensures.some c.place.ensures.none
