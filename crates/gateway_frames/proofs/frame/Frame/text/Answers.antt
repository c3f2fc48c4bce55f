use Rattle.gateway_frames.proofs.Back.{text_as, frame_reads}
use Rattle.gateway_frames.proofs.Frames.{frame_back, frame_plain}
use Rattle.gateway_frames.proofs.frame.Frame.text.Goals as goal

pub returns-clause-text : goal.returns-clause-text
returns-clause-text c =
    text_as c.to_string.result _ _ c.in_ok-value.ensures.value (frame_plain c.args.self.now).1 c.to_string.ensures.text

pub returns-clause-reads_back : goal.returns-clause-reads_back
returns-clause-reads_back c =
    frame_reads c.to_string.result _ c.args.self.now c.in_ok-value.ensures.value (frame_plain c.args.self.now).0
    (frame_back c.args.self.now c.in_ok-value.ensures.fits) c.to_string.ensures.reads_back
