-- A packet's sixteen nibbles as eight bytes, as the code reads them.
use Rattle.std.proofs.Common.{◌≡◌, ℕ, ◌+◌, ◌*◌, ◌/◌, ◌%◌, ◌^◌, ◌<◌, List, [], ◌∷◌, get_or, sym, refl, ◌∙◌, arith}
use Rattle.packet.specs.ByTable.{crc_with, read_nibbles_with}
use Rattle.packet.specs.Laws.Bytes.{byte_back}
use Rattle.packet.specs.Layout.{byte_of, carried_in, fields_of}
use Rattle.packet.specs.Shares.{byte_at, halves_of, joined_by, share_in}
use Rattle.packet.proofs.Joining.{seven}

module _ (a b c d e f g h : ℕ) (ha : a < 256) (hb : b < 256) (hc : c < 256) (hd : d < 256) (he : e < 256) (hf : f < 256) (hg : g < 256) (hh : h < 256) where
  abbrev halves : List ℕ
  halves = halves_of (a ∷ b ∷ c ∷ d ∷ e ∷ f ∷ g ∷ h ∷ [])

  pub sum_of : (table : List (List ℕ)) (s : ℕ) → s ≡ joined_by (share_in table) (λ p. get_or (a ∷ b ∷ c ∷ d ∷ e ∷ f ∷ g ∷ []) p 0) 7 → s ≡ crc_with table halves
  unfolding crc_with
  sum_of table s j =
      j
      ∙ seven (share_in table) (byte_at halves) a b c d e f g
      (sym (byte_back a ha))
      (sym (byte_back b hb))
      (sym (byte_back c hc))
      (sym (byte_back d hd))
      (sym (byte_back e he))
      (sym (byte_back f hf))
      (sym (byte_back g hg))

  pub carried_of : h ≡ carried_in halves
  unfolding carried_in
  carried_of = sym (byte_back h hh)

byte_again : (n a b : ℕ) → n ≡ byte_of a b → byte_of (n / 16) (n % 16) ≡ byte_of a b
byte_again n a b e = omega arith

high : (n a b : ℕ) → n ≡ byte_of a b → n / 16 % 16 ≡ a % 16
high n a b e = omega arith

low : (n a b : ℕ) → n ≡ byte_of a b → n % 16 % 16 ≡ b % 16
low n a b e = omega arith

high_bit : (n a b : ℕ) → n ≡ byte_of a b → n / 16 % 2 ≡ a % 2
high_bit n a b e = omega arith

low_bit : (n a b : ℕ) → n ≡ byte_of a b → n % 16 % 2 ≡ b % 2
low_bit n a b e = omega arith

-- nibbles are read by the bytes that they make, each by its low four bits
module _ (table : List (List ℕ)) (ns : List ℕ) (a b c d e f g h : ℕ) (ea : a ≡ byte_at ns 0) (eb : b ≡ byte_at ns 1) (ec : c ≡ byte_at ns 2) (ed : d ≡ byte_at ns 3) (ee : e ≡ byte_at ns 4) (ef : f ≡ byte_at ns 5) (eg : g ≡ byte_at ns 6) (eh : h ≡ byte_at ns 7) where
  abbrev n : ℕ → ℕ
  n k = get_or ns k 0

  abbrev these : List ℕ
  these = halves_of (a ∷ b ∷ c ∷ d ∷ e ∷ f ∷ g ∷ h ∷ [])

  same_sum : crc_with table these ≡ crc_with table ns
  unfolding crc_with
  same_sum =
      seven (share_in table) (byte_at ns) (byte_at these 0) (byte_at these 1) (byte_at these 2) (byte_at these 3) (byte_at these 4) (byte_at these 5) (byte_at these 6)
      (byte_again a (n 0) (n 1) ea)
      (byte_again b (n 2) (n 3) eb)
      (byte_again c (n 4) (n 5) ec)
      (byte_again d (n 6) (n 7) ed)
      (byte_again e (n 8) (n 9) ee)
      (byte_again f (n 10) (n 11) ef)
      (byte_again g (n 12) (n 13) eg)

  same_carried : carried_in these ≡ carried_in ns
  unfolding carried_in
  same_carried = byte_again h (n 14) (n 15) eh

  same_fields : fields_of these ≡ fields_of ns
  unfolding fields_of
  same_fields =
      λ i. record {
        epoch = byte_again e (n 8) (n 9) ee i;
        word = record { 0 = high f (n 10) (n 11) ef i };
        gid = low_bit f (n 10) (n 11) ef i;
        mst = byte_again a (n 0) (n 1) ea i;
        rs_ack = high_bit b (n 2) (n 3) eb i;
        sq = byte_again d (n 6) (n 7) ed i;
        reserved =
            high b (n 2) (n 3) eb i / 2 * 2 ^ 23
            + low b (n 2) (n 3) eb i * 2 ^ 19
            + high c (n 4) (n 5) ec i * 2 ^ 15
            + low c (n 4) (n 5) ec i * 2 ^ 11
            + low f (n 10) (n 11) ef i / 2 * 2 ^ 8
            + high g (n 12) (n 13) eg i * 2 ^ 4
            + low g (n 12) (n 13) eg i;
      }

  pub by_bytes : read_nibbles_with table these ≡ read_nibbles_with table ns
  unfolding read_nibbles_with
  by_bytes = rw (same_sum, same_carried, same_fields) refl
