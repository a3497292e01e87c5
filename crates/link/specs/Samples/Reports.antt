-- The run of the sample link, computed to its reports.
use Rattle.std.specs.Prelude.{◌≡◌, refl, List, [], ◌∷◌, ◌++◌, ◌+◌, drop, get_or, length, replicate}
use Rattle.std.proofs.Common.{ap, arith}
use Rattle.ground.specs.Table.{tabulate}
use Rattle.ground.specs.Types.{Bytes, Epoch}
use Rattle.judge.specs.Verdict.{HELD, SURE}
use Rattle.link.specs.Link.{expected}
use Rattle.link.specs.Told.{Told}
use Rattle.link.specs.Samples.Computing.{outcome}
use Rattle.link.specs.Samples.Members.{link, output}
use Rattle.link.specs.Samples.Tracing.{Course, begun_by, course, outcome_by_lem}

abbrev pub sure : Epoch → Bytes → Told
sure e bytes = record { epoch = e; mark = SURE; bytes = bytes; rest = drop (length bytes) output }

abbrev pub held : Epoch → Told
held e = record { epoch = e; mark = HELD; bytes = []; rest = output }

-- six reports, of which the second is given
abbrev pub reports_with : Told → List Told
reports_with second =
    sure 254 (160 ∷ 162 ∷ 164 ∷ 166 ∷ 168 ∷ 170 ∷ 172 ∷ 174 ∷ 176 ∷ 178 ∷ 180 ∷ 182 ∷ 184 ∷ 186 ∷ 188 ∷ 190 ∷ [])
    ∷ second
    ∷ sure 0 (224 ∷ 226 ∷ 228 ∷ 230 ∷ 232 ∷ 234 ∷ 236 ∷ 238 ∷ 240 ∷ 242 ∷ 244 ∷ 246 ∷ 248 ∷ 250 ∷ 252 ∷ 254 ∷ [])
    ∷ sure 1 (0 ∷ 1 ∷ 2 ∷ 3 ∷ 4 ∷ 5 ∷ 6 ∷ 7 ∷ 8 ∷ 9 ∷ 10 ∷ 11 ∷ 12 ∷ 13 ∷ 14 ∷ 15 ∷ 16 ∷ 17 ∷ 18 ∷ 19 ∷ 20 ∷ 21 ∷ 22 ∷ 23 ∷ 24 ∷ 25 ∷ 26 ∷ 27 ∷ 28 ∷ 29 ∷ 30 ∷ 31 ∷ [])
    ∷ held 2
    ∷ sure 3 (64 ∷ 66 ∷ 68 ∷ 70 ∷ 72 ∷ 74 ∷ 76 ∷ 78 ∷ 80 ∷ 82 ∷ 84 ∷ 86 ∷ 88 ∷ 90 ∷ 92 ∷ 94 ∷ [])
    ∷ []

unfoldable pub reports : List Told
reports = reports_with (sure 255 (192 ∷ 193 ∷ 194 ∷ 195 ∷ 196 ∷ 197 ∷ 198 ∷ 199 ∷ 200 ∷ 201 ∷ 202 ∷ 203 ∷ 204 ∷ 205 ∷ 206 ∷ 207 ∷ 208 ∷ 209 ∷ 210 ∷ 211 ∷ 212 ∷ 213 ∷ 214 ∷ 215 ∷ 216 ∷ 217 ∷ 218 ∷ 219 ∷ 220 ∷ 221 ∷ 222 ∷ 223 ∷ []))

-- The run, computed once: its outcome after frame time 179, and before which frame times receiving had begun, the last one first.
whole : course link 180 ≡ record { outcome = record { begun = 1; told = reports; strange = [] }; begun = replicate 125 1 ++ replicate 56 0 }
unfolding outcome course reports
whole = refl

-- The last port's first frame comes in frame time 21. Receiving begins in frame time 55, at the 35th frame from that one.
begins : ((outcome link 55).begun ≡ 0) × ((outcome link 56).begun ≡ 1)
begins = (
  begun_by link 180 55 0 (omega arith) (ap (λ (c : Course). get_or c.begun 125 0) whole),
  begun_by link 180 56 1 (omega arith) (ap (λ (c : Course). get_or c.begun 124 0) whole),
)

-- One member, two, one that has failed left out, two again, one held, and one after the removal. The output beyond their bytes is as it was lent, and where one is held all of it. No frame is answered otherwise than by 0 or 12.
pub run : outcome link 180 ≡ record { begun = 1; told = reports; strange = [] }
run = outcome_by_lem link 180 _ (ap (λ (c : Course). c.outcome) whole)

-- the reports that demand 3 says are to come
pub as_expected : tabulate 6 (λ j. expected link (4 + j) (link.output j)) ≡ reports
unfolding outcome reports
as_expected = refl
