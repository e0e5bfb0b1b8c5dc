use Rattle.search_dump.proofs.Common.{◌++◌, ap, ◌∙◌, chars, string_bytes, encodes-chars, goes-plain}
use Rattle.search_dump.proofs.listing.push_plain.Goals as goal

pub returns : goal.returns
returns c =
    goes-plain (string_bytes c.args.list.now) (string_bytes c.push_str.new.self) c.args.word.now
    (chars c.args.word.now) (encodes-chars c.args.word.now c.utf8.word) c.requires
    (c.in_ok-push_str.ensures.bytes ∙ ap (λ bytes. bytes ++ c.args.word.now) c.in_ok-push_space.ensures.ok)
