use Rattle.routes.proofs.chains.Chaining.{chain_start}
use Rattle.routes.proofs.chains.chain.Goals as goal

pub loop-i-init : goal.loop-i-init
loop-i-init c = chain_start c.args.ends.now
