use Rattle.std.proofs.Common.{sym, subst}
use Rattle.zd_base.specs.Geometry.{IsShape}
use Rattle.zd_model.proofs.FaultLaws.{map_follows, no_chunk_bad}
use Rattle.zd_model.proofs.BitLaws.{bits_follow, no_bad_bit}
use Rattle.zd_model.proofs.SameLaws.{chosen_of_same}
use Rattle.zd_model.proofs.ContentLaws.{length-content, content-sectors, well_formed_of_same}
use Rattle.zd_model.proofs.ContentLaws.{content_of_same, same_back}
use Rattle.zd_model.proofs.laws.volume_laws.Goals as goal

pub returns-clause-map : goal.returns-clause-map
returns-clause-map c g l entries = (map_follows g l entries, no_chunk_bad g l entries)

pub returns-clause-bits : goal.returns-clause-bits
returns-clause-bits c g l pointer t map_rules =
    (bits_follow g l pointer t map_rules, no_bad_bit g pointer t)

pub returns-clause-sectors : goal.returns-clause-sectors
returns-clause-sectors c image set is_image shape well =
    (length-content image set, content-sectors image set is_image shape well)

pub returns-clause-chosen : goal.returns-clause-chosen
returns-clause-chosen c = chosen_of_same

pub returns-clause-well_formed : goal.returns-clause-well_formed
returns-clause-well_formed c old new set is_old is_new shape same = (
  well_formed_of_same old new set is_old shape same,
  well_formed_of_same new old set is_new (subst IsShape (sym same.geometry) shape) (same_back old new same),
)

pub returns-clause-content : goal.returns-clause-content
returns-clause-content c = content_of_same
