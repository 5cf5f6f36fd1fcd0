use Rattle.std.proofs.Common.{◌≡◌, ◌≤◌, count_by, take}
use Rattle.lgp_stream.specs.Language.{is_line_feed}
use Rattle.lgp_desk.proofs.file_forms.line_feeds.Given as goal

abbrev pub invariant-loop-byte : goal.invariant-loop-byte
invariant-loop-byte l = (l.count ≡ count_by is_line_feed (take l.byte-index l.text)) × (l.count ≤ l.byte-index)
