-- Each turn deals one key more; the last finds too few bits.
use Rattle.clean.proofs.Dealing.{one_more, all_dealt}
use Rattle.clean.proofs.deal.deal_keys.Goals as goal

pub loop-key-preserved : goal.loop-key-preserved
loop-key-preserved c =
    one_more _ _ _ _ _ _ _ c.loop-key.key c.next_key.new.key c.next_key.result
    c.loop-key-test.ensures.value c.loop-key.auto.key c.next_key.ensures c.in_ok-write.ensures.bytes c.loop-key.invariant

pub returns : goal.returns
returns c =
    all_dealt _ _ _ _ _ _ c.loop-key.key c.next_key.new.key c.next_key.result
    c.loop-key-test.ensures.value c.loop-key.auto.key c.requires.some c.requires.few c.next_key.ensures c.loop-key.invariant
