use Rattle.gateway_frames.proofs.Back.{reads_as, out_shallow}
use Rattle.gateway_frames.proofs.out.Out.text.Goals as goal

pub returns-clause-reads_back : goal.returns-clause-reads_back
returns-clause-reads_back c =
    reads_as c.to_string.result _ _ c.in_ok-value.ensures (out_shallow c.args.self.now) c.to_string.ensures.reads_back
