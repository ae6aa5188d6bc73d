-- The steps of the definition.
use Rattle.module_rules.specs.Finish.{finished}
use Rattle.module_memory.proofs.Taken.{◌then◌}
use Rattle.module_word_steps.proofs.Raised.{still}
use Rattle.module_word_steps.proofs.finish.Goals as goal

pub drop_sent-requires : goal.drop_sent-requires
drop_sent-requires c = still c.deliver.ensures c.room_in-depth.ensures

pub free_after_finish-requires : goal.free_after_finish-requires
free_after_finish-requires c = still (c.deliver.ensures then c.drop_sent.ensures) c.room_in-depth.ensures

pub load-requires : goal.load-requires
load-requires c = still (c.deliver.ensures then c.drop_sent.ensures then c.free_after_finish.ensures) c.room_in-depth.ensures

pub returns : goal.returns
unfolding finished
returns c =
    c.deliver.ensures then c.drop_sent.ensures then c.free_after_finish.ensures then c.load.ensures then c.rest.ensures
