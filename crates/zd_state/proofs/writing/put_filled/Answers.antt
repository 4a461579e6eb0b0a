use Rattle.zd_state.proofs.writing.put_filled.Goals as goal

pub returns-clause-put : goal.returns-clause-put
returns-clause-put g c = record {
  bytes = c.fill.new.out;
  fills = c.fill.ensures;
  call = c.write.ensures.call;
  ok = c.write.ensures.ok;
  err = c.write.ensures.err;
  cause = c.write.ensures.cause;
}
