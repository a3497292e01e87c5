-- All that this crate and those below it define, opened under one name for examples that are computed. A new definition is named here, and nowhere else.
use Rattle.std.specs.Prelude.{ℕ}
use Rattle.ground.specs.Opened.{ground_open}
use Rattle.packet.specs.Changes.{brings_mfi2, changed, kept_part, most_changes}
use Rattle.packet.specs.Counts.{carries_low, counts, h4_counts, says_start, starts_count, tag_by_high, tag_by_low, told_bits, told_first, vc12_counts}
use Rattle.packet.specs.Crc.{crc_of, divisor, nibble_bits}
use Rattle.packet.specs.Fixed.{fixed_nibbles, fixed_nibbles_with, fixed_ruling_of, read_fixed_answer, read_fixed_nibbles, write_fixed_answer, write_fixed_bytes}
use Rattle.packet.specs.Kinds.{distance_of, ends_epoch, epoch_after, epoch_of, epochs, epochs_in, first_tag, frames, idle_number, known_kind, lead, mst_epochs, mst_fails, mst_first, mst_numbers, payload_right, place_of, starts_epoch, tag_after, tag_before, tags}
use Rattle.packet.specs.Layout.{carried_in, data_of, fields_of, h4_of, highs_of, nibbles_of, sealed_of}
use Rattle.packet.specs.Reading.{read_answer, read_nibbles}
use Rattle.packet.specs.Ruling.{fields_in, read_row, ruling_of}
use Rattle.packet.specs.Sent.{sent_answer, sent_bytes, sent_fits}
use Rattle.packet.specs.Shares.{joined_to, share_of, shares_of}
use Rattle.packet.specs.Symbols.{entry_at, entry_from, entry_with, row_from, symbol_at, symbol_in, symbol_of, with_symbol}
use Rattle.packet.specs.Vc12.{lowest_of, read_vc12_answer, read_vc12_bits, read_vc12_row, row_bits, vc12_bits, vc12_bytes, vc12_data, vc12_divisor, vc12_fields, vc12_fits, write_vc12_answer, write_vc12_bytes}
use Rattle.packet.specs.Words.{assigned}
use Rattle.packet.specs.Writing.{fitting, write_answer, write_bytes}
use Rattle.packet.specs.ByTable.{crc_with, read_nibbles_with, read_row_with, ruling_with}

unfoldable pub packet_open : ℕ
unfolding ground_open brings_mfi2 changed kept_part most_changes carries_low counts h4_counts says_start starts_count tag_by_high tag_by_low told_bits vc12_counts
    crc_of divisor nibble_bits fixed_nibbles fixed_nibbles_with fixed_ruling_of read_fixed_answer read_fixed_nibbles write_fixed_answer write_fixed_bytes distance_of
    ends_epoch epoch_after epoch_of epochs epochs_in first_tag frames idle_number known_kind lead mst_epochs mst_fails mst_first mst_numbers payload_right place_of
    starts_epoch tag_after tag_before tags carried_in data_of fields_of h4_of highs_of nibbles_of sealed_of read_answer read_nibbles fields_in read_row ruling_of
    sent_answer sent_bytes sent_fits joined_to share_of entry_at entry_from entry_with row_from symbol_at symbol_in symbol_of with_symbol lowest_of read_vc12_answer
    read_vc12_bits read_vc12_row row_bits vc12_bits vc12_bytes vc12_data vc12_divisor vc12_fields vc12_fits write_vc12_answer write_vc12_bytes assigned fitting
    write_answer write_bytes crc_with read_nibbles_with read_row_with ruling_with shares_of told_first
packet_open = 0
