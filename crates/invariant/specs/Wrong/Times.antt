-- 'Only the reply changes' (02, 2026-03) read as if states did not: two receivers started alike but for their times would show the same states.
use Rattle.std.specs.Prelude.{◌≡◌, refl, false, List, [], ◌∷◌, ◌++◌, ℕ, get_or, length, replicate, if◌then◌else◌, ◌==◌}
use Rattle.std.proofs.Common.{sym, ap, ◌∙◌, arith}
use Rattle.ground.specs.Table.{tabulate}
use Rattle.invariant.specs.Calls.{Fetch, Frame, Receiver, ReceiverCall, receiver_run, started_with}
use Rattle.invariant.specs.Times.{Outcome, outcomes_of}
use Rattle.invariant.specs.Wrong.Sample.{sent_h4}
use Rattle.judge.specs.Verdict.{DOUBTFUL, SURE}
use Rattle.packet.specs.Layout.{h4_of, nibbles_of}
use Rattle.packet.specs.Words.{EOS}
use Rattle.receiver.specs.Shown.{ports_out, reply_out}
use Rattle.receiver.specs.Starting.{start_as_answer}
use Rattle.receiver.specs.Opened.{receiver_open}

-- sixteen frames with the packet EOS under a number, each bringing a byte
epoch : ℕ → ℕ → List ReceiverCall
epoch e number =
    let h4 = h4_of (nibbles_of (record { epoch = e; word = record { 0 = EOS }; gid = 0; mst = 255; rs_ack = 0; sq = number; reserved = 0 })) in
    tabulate 16 (λ k. Frame 0 false (get_or h4 k 0) (e ∷ []))

fetch : ReceiverCall
fetch = Fetch (replicate 16 0) (replicate 8 0)

-- One port comes into step, and epoch 3 is gathered. With the packet of epoch 4 it has a number above 63, with that of epoch 5 the number 0 again. Epochs 4 and 5 are reported.
calls : List ReceiverCall
calls = tabulate 40 (λ t. Frame 0 false (sent_h4 t) (0 ∷ [])) ++ (epoch 3 0 ++ (epoch 4 70 ++ (fetch ∷ (epoch 5 0 ++ (fetch ∷ [])))))

-- with this wait-to-restore
receiver : ℕ → Receiver
receiver wait = started_with 0 1 1 16 [] (wait ∷ []) (replicate 6 (replicate 16 0)) (replicate 32 0)

after : ℕ → List (List ℕ)
after wait = (receiver_run (receiver wait) calls).rows

-- the records and the bytes of all reports
reports : List Outcome → List (List ℕ)
reports [] = []
reports (o ∷ l) = if length o.report == 0 then reports l else (o.report ++ o.out) ∷ reports l

both : List (List ℕ)
both = (SURE ∷ 4 ∷ 1 ∷ 0 ∷ 0 ∷ 0 ∷ 0 ∷ 16 ∷ replicate 16 4) ∷ (DOUBTFUL ∷ 5 ∷ 1 ∷ 7 ∷ 0 ∷ 0 ∷ 0 ∷ 16 ∷ replicate 16 5) ∷ []

-- Both start, and every report is the same. With no wait the port is OK under 0, with two reports to wait it is FAIL and restoring. MST differs with it, RS-Ack does not.
times_differ :
    (start_as_answer 0 1 1 16 32 [] (0 ∷ []) 6 ≡ 0)
    × (start_as_answer 0 1 1 16 32 [] (2 ∷ []) 6 ≡ 0)
    × (reports (outcomes_of (receiver 0) calls) ≡ both)
    × (reports (outcomes_of (receiver 2) calls) ≡ both)
    × (ports_out (after 0) ([] ∷ []) ≡ (2 ∷ 0 ∷ 1 ∷ 1 ∷ 1 ∷ 0 ∷ 3 ∷ 0 ∷ []) ∷ [])
    × (ports_out (after 2) ([] ∷ []) ≡ (1 ∷ 0 ∷ 1 ∷ 1 ∷ 1 ∷ 0 ∷ 3 ∷ 2 ∷ []) ∷ [])
    × (reply_out (after 0) 0 (0 ∷ 0 ∷ []) ≡ 127 ∷ 0 ∷ [])
    × (reply_out (after 2) 0 (0 ∷ 0 ∷ []) ≡ 255 ∷ 0 ∷ [])
unfolding receiver_open epoch fetch calls receiver after reports both
times_differ = (refl, refl, refl, refl, refl, refl, refl, refl)

states_differ : ports_out (after 0) ([] ∷ []) ≡ ports_out (after 2) ([] ∷ []) → ⊥
states_differ e =
    let (a, b, c, d, ok, fail, f, g) = times_differ in
    let same : ◌≡◌ {A = ℕ} 2 1 = ap (λ (l : List (List ℕ)). get_or (get_or l 0 []) 0 0) (sym ok ∙ e ∙ fail) in
    omega arith
