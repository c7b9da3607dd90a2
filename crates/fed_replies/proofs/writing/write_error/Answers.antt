use Rattle.fed_replies.proofs.ReplyTexts.{error_written}
use Rattle.fed_replies.proofs.writing.write_error.Goals as goal

pub returns : goal.returns
returns c =
    error_written c.args.out.now.items c.extend_from_slice.new.self.items c.write_text.new.out.items c.extend_from_slice-2.new.self.items c.args.text.now
    c.in_ok-extend_from_slice.ensures.items c.in_ok-write_text.ensures c.in_ok-extend_from_slice-2.ensures.items
