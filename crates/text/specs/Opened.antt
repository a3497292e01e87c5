-- All that this crate and those below it define, opened under one name for examples that are computed. A new definition is named here, and nowhere else.
use Rattle.std.specs.Prelude.{ℕ}
use Rattle.packet.specs.Opened.{packet_open}
use Rattle.text.specs.Fields.{bytes_in, digit_of, hex_of, is_hex, number_of}
use Rattle.text.specs.Output.{decimal_text, number_text, put_bytes, put_next, word_text}
use Rattle.text.specs.Text.{fields_of, first_part, lines_of}

unfoldable pub text_open : ℕ
unfolding packet_open bytes_in digit_of hex_of is_hex number_of decimal_text number_text put_bytes put_next word_text fields_of first_part lines_of
text_open = 0
