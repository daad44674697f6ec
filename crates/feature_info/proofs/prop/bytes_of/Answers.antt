use Rattle.feature_info.proofs.Lists.{bytes_next}
use Rattle.feature_info.proofs.prop.bytes_of.Goals as goal

pub loop-prop-preserved : goal.loop-prop-preserved
loop-prop-preserved c =
    bytes_next c.args.props.now c.loop-prop.prop-index c.prop-item.result c.loop-prop.bytes.items c.put.new.out.items c.loop-prop.invariant c.loop-prop-test.true c.prop-item.is
    c.in_ok-put.ensures
