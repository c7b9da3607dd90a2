use Rattle.fed_replies.proofs.ReplyTexts.{text_written}
use Rattle.fed_replies.proofs.writing.write_plain.Goals as goal

pub returns : goal.returns
returns c =
    text_written c.args.out.now.items c.extend_from_slice.new.self.items c.extend_from_slice-2.new.self.items c.extend_from_slice-3.new.self.items c.args.text.now c.requires
    c.in_ok-extend_from_slice.ensures.items c.in_ok-extend_from_slice-2.ensures.items c.in_ok-extend_from_slice-3.ensures.items
