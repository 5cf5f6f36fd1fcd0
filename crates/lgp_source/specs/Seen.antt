-- Part of the public promise: the lines and tokens that the program's values show, which borrow the
-- source.
use Rattle.std.specs.Prelude.{map}
use Rattle.std.specs.Option.{option_map}
use Rattle.lgp_source.specs.Source.{SourceToken, SourceLine}
use Rattle.lgp_source.specs.declared.parts.Token.{Token}
use Rattle.lgp_source.specs.declared.parts.Line.{Line}

abbrev pub token_seen : Token → SourceToken
token_seen token = record { text = token.text.now; first = token.first; past = token.past }

abbrev pub line_seen : Line → SourceLine
line_seen line = record {
  number = line.number;
  text = line.text.now;
  label = option_map token_seen line.label;
  operation = option_map token_seen line.operation;
  operands = map (option_map token_seen) line.operands;
  bad_byte = line.bad_byte;
  extra = line.extra;
}
