-- Fields and numbers of a text (01, 'Session': 'Numbers have one to three decimal digits', 'two hex digits, either case'; request 2026-05: 'payload in hex'), by the codes of ASCII, and how they are written.
use Rattle.std.specs.Prelude.{true, false, [], ◌∷◌, ℕ, replicate, Some, None}
use Rattle.packet.specs.declared.words.Word.{Word}
use Rattle.text.specs.Ascii.{ascii}
use Rattle.text.specs.Fields.{bytes_in, bytes_of, digit_of, hex_of, is_hex, number_of}
use Rattle.text.specs.Output.{decimal_text, number_text, put_bytes, put_next, word_text}
use Rattle.text.specs.Text.{fields_of, lines_of}
use Rattle.pinned.specs.Opened.{all_open}
use Rattle.tables.specs.Rows.{Pinned, pins, row, same}

digits : Pinned
unfolding all_open
digits =
    pins "0 to 9 are 48 to 57, A to F 65 to 70, a to f 97 to 102; what stands right before and behind them is no digit (01, 'Session'; request 2026-05)"
    (row "their codes" (ascii "/09:@AFG`afg") (47 ∷ 48 ∷ 57 ∷ 58 ∷ 64 ∷ 65 ∷ 70 ∷ 71 ∷ 96 ∷ 97 ∷ 102 ∷ 103 ∷ []) same
    ∷ row "47" (digit_of 47) 16 same
    ∷ row "0" (digit_of 48) 0 same
    ∷ row "9" (digit_of 57) 9 same
    ∷ row "58" (digit_of 58) 16 same
    ∷ row "64" (digit_of 64) 16 same
    ∷ row "A" (digit_of 65) 10 same
    ∷ row "F" (digit_of 70) 15 same
    ∷ row "71" (digit_of 71) 16 same
    ∷ row "96" (digit_of 96) 16 same
    ∷ row "a" (digit_of 97) 10 same
    ∷ row "f" (digit_of 102) 15 same
    ∷ row "103" (digit_of 103) 16 same
    ∷ row "104" (digit_of 104) 16 same
    ∷ [])

numbers : Pinned
unfolding all_open
numbers =
    pins "Decimal numbers of one digit to so many, nine at the very most; hex ones of exactly so many, one to eight (01, 'Session'; request 2026-05)"
    (row "three digits" (number_of 3 (ascii "255")) (Some 255) same
    ∷ row "one digit" (number_of 3 (ascii "7")) (Some 7) same
    ∷ row "none" (number_of 3 []) None same
    ∷ row "four where three are the most" (number_of 3 (ascii "1000")) None same
    ∷ row "a hex digit among them" (number_of 3 (ascii "12A")) None same
    ∷ row "nine digits" (number_of 20 (ascii "987654321")) (Some 987654321) same
    ∷ row "ten digits" (number_of 20 (ascii "1000000000")) None same
    ∷ row "two hex digits" (hex_of 2 (ascii "aF")) (Some 175) same
    ∷ row "one where two are asked" (hex_of 2 (ascii "F")) None same
    ∷ row "three where two are asked" (hex_of 2 (ascii "0FF")) None same
    ∷ row "G among them" (hex_of 2 (ascii "0G")) None same
    ∷ row "one hex digit" (hex_of 1 (ascii "7")) (Some 7) same
    ∷ row "no hex digit" (hex_of 0 []) None same
    ∷ row "eight hex digits" (hex_of 8 (ascii "01234567")) (Some 19088743) same
    ∷ row "nine hex digits" (hex_of 9 (ascii "012345678")) None same
    ∷ [])

payloads : Pinned
unfolding all_open
payloads =
    pins "Two hex digits a byte, all or none (01, 'Session'; request 2026-05)"
    (row "one byte" (is_hex 2 (ascii "0f")) true same
    ∷ row "g among them" (is_hex 2 (ascii "0g")) false same
    ∷ row "one digit" (is_hex 2 (ascii "0")) false same
    ∷ row "no byte" (is_hex 0 []) true same
    ∷ row "a half byte is left out" (bytes_of (ascii "0A1b7")) (10 ∷ 27 ∷ []) same
    ∷ row "two bytes" (bytes_in (ascii "3A1b") (9 ∷ 9 ∷ [])) (58 ∷ 27 ∷ []) same
    ∷ row "three digits" (bytes_in (ascii "3A1") (9 ∷ 9 ∷ [])) (9 ∷ 9 ∷ []) same
    ∷ row "six digits" (bytes_in (ascii "3A1b00") (9 ∷ 9 ∷ [])) (9 ∷ 9 ∷ []) same
    ∷ row "g in a payload" (bytes_in (ascii "3A1g") (9 ∷ 9 ∷ [])) (9 ∷ 9 ∷ []) same
    ∷ [])

parting : Pinned
unfolding all_open
parting =
    pins "'fields parted by tabs': a tab at the end has an empty field behind it, an empty line one field; a line end has no line behind it, and the last line may lack its end (01, 'Session'; request 2026-05)"
    (row "a tab at the end" (fields_of (97 ∷ 9 ∷ 9 ∷ 98 ∷ 10 ∷ 9 ∷ [])) ((97 ∷ []) ∷ [] ∷ (98 ∷ 10 ∷ []) ∷ [] ∷ []) same
    ∷ row "an empty line" (fields_of []) ([] ∷ []) same
    ∷ row "line ends" (lines_of (97 ∷ 9 ∷ 10 ∷ 10 ∷ 98 ∷ 10 ∷ [])) ((97 ∷ 9 ∷ []) ∷ [] ∷ (98 ∷ []) ∷ []) same
    ∷ row "a last line that lacks its end" (lines_of (97 ∷ 10 ∷ 98 ∷ [])) ((97 ∷ []) ∷ (98 ∷ []) ∷ []) same
    ∷ row "no line" (lines_of []) [] same
    ∷ [])

abbrev word : ℕ → Word
word n = record { 0 = n }

written : Pinned
unfolding all_open
written =
    pins "Numbers with no zero before them, up to 64 bits; words by name; a text at its place, or left out where it does not fit (01, 'Session'; request 2026-05)"
    (row "0" (decimal_text 0) (ascii "0") same
    ∷ row "9" (decimal_text 9) (ascii "9") same
    ∷ row "10" (decimal_text 10) (ascii "10") same
    ∷ row "99" (decimal_text 99) (ascii "99") same
    ∷ row "100" (decimal_text 100) (ascii "100") same
    ∷ row "199" (decimal_text 199) (ascii "199") same
    ∷ row "200" (decimal_text 200) (ascii "200") same
    ∷ row "255" (decimal_text 255) (ascii "255") same
    ∷ row "0 in 64 bits" (number_text 0) (ascii "0") same
    ∷ row "1,090" (number_text 1090) (ascii "1090") same
    ∷ row "the largest of 64 bits" (number_text 18446744073709551615) (ascii "18446744073709551615") same
    ∷ row "ADD" (word_text (word 1)) (ascii "ADD") same
    ∷ row "NORM" (word_text (word 2)) (ascii "NORM") same
    ∷ row "EOS" (word_text (word 3)) (ascii "EOS") same
    ∷ row "DNU" (word_text (word 15)) (ascii "DNU") same
    ∷ row "IDLE" (word_text (word 5)) (ascii "IDLE") same
    ∷ row "FIXED is written IDLE" (word_text (word 0)) (ascii "IDLE") same
    ∷ row "a place behind it" (put_next (1 ∷ 2 ∷ []) 2 (replicate 5 9)) 4 same
    ∷ row "up to the end" (put_next (1 ∷ 2 ∷ []) 3 (replicate 5 9)) 5 same
    ∷ row "where it does not fit the place stays" (put_next (1 ∷ 2 ∷ []) 4 (replicate 5 9)) 4 same
    ∷ row "bytes at place 2" (put_bytes (1 ∷ 2 ∷ []) 2 (replicate 5 9)) (9 ∷ 9 ∷ 1 ∷ 2 ∷ 9 ∷ []) same
    ∷ row "bytes up to the end" (put_bytes (1 ∷ 2 ∷ []) 3 (replicate 5 9)) (9 ∷ 9 ∷ 9 ∷ 1 ∷ 2 ∷ []) same
    ∷ row "where they do not fit all stays" (put_bytes (1 ∷ 2 ∷ []) 4 (replicate 5 9)) (replicate 5 9) same
    ∷ [])
