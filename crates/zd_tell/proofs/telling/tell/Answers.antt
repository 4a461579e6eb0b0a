use Rattle.zd_tell.proofs.TellLaws.{tells_memory}
use Rattle.zd_tell.proofs.telling.tell.Goals as goal

pub returns-in-Err : goal.returns-in-Err
returns-in-Err g c =
    tells_memory _ _ c.as_bytes-in-Err.result.now c.hand_out-in-Err.result.0 _ _ _ _ c.in_default.ensures.none c.as_bytes-in-Err.ensures.value
    c.hand_out-in-Err.ensures
