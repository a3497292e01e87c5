-- All frame times: what stands at every moment of a run is one of three things, before the beginning, in the first epoch, or while reports are made (`Phase`, `phase`).
-- The idea: what single frames and fetches do is taken from elsewhere (`CallsDo`). It goes by induction over the ports of a frame time in their order, and then over frame times; each turn leads from one of the three to one of the three. Where it ends: receiving has begun 47 frames after the last port's first (`begun_by`).
use Rattle.std.specs.Prelude.{◌≡◌, ◌≢◌, Bool, get_or, length}
use Rattle.std.proofs.Math.Path.{refl}
use Rattle.std.proofs.Common.{sym, ap, ◌∙◌, subst, inl, inr, ⊎_elim, true≢false, not-suc-le-zero, arith, length-append, lt-ltb, eq-eqb, ne_eqb, le-leb, ltb-true}
use Rattle.std.proofs.Math.Bool.{true, false, cond}
use mathlib.Core.List.{List, [], ◌∷◌, ◌++◌, append-nil, append_assoc}
use Prim.Native.Nat.{ℕ, zero, suc, ◌+◌, ◌-◌, ◌*◌, ◌/◌, ◌≤◌, ◌<◌}
use Rattle.std.proofs.Math.Dec.{ltb}
use Rattle.std.proofs.lemmas.Bool.{lt-leb}
use Rattle.ground.specs.Truth.{eq_or_ne, le_or_lt}
use Rattle.packet.specs.Laws.Epochs.{one_epoch}
use Rattle.packet.specs.Theorems.Tags.{frames_some}
use Rattle.phases.specs.Beginning.{begins}
use Rattle.receiver.specs.Laws.Sizes.{window_some}
use Rattle.rows.specs.Group.{group_at}
use Rattle.step.specs.Sent.{SentWith}
use Rattle.step.specs.SentRuns.{start_from}
use Rattle.step.specs.Theorems.Run.{start_from_lem}
use Rattle.link.specs.Proofs.Laws.Lists.{append_apart}
use Rattle.link.specs.Moments.{Beginning, NotAfter, Ready, Unready, coming, next_at, reached}
use Rattle.link.specs.Road.{L, Road}
use Rattle.link.specs.Proofs.Fair.{Fair, sizes_in}
use Rattle.link.specs.Running.{Moment, drained, fetched, framed, has_begun, record_at, through, turn, turns}
use Rattle.link.specs.Proofs.Standing.{Before, First, Later, Owes}
use Rattle.link.specs.Proofs.Transport.Due.{AllCome, owes_or_come}
use Rattle.link.specs.Proofs.Transport.Moments.{Rest, apart, next_time, reach, rest_all, rest_tail, served, served_at, unserved}
use Rattle.link.specs.Proofs.Transport.Served.{Apart, Begun?, Gathered?, Reach, Served}
use Rattle.link.specs.Proofs.Transport.Served.Begun?.{comes, stays}
use Rattle.link.specs.Proofs.Transport.Served.Gathered?.{gathers, waits}

module _ (r : Road) where
  abbrev mark_next : Moment → ℕ
  mark_next m = get_or (record_at r m) 0 0

  -- what single frames and fetches are proved to do
  pub record CallsDo : Type 0 where
    pub on_before : (m : Moment) (p : ℕ) (coming coming' : ℕ → ℕ) → Served r p coming coming' → Apart r coming' → SentWith r.kind (r.offset + coming p) (r.h4 p (coming p)) → Before r m coming
        → Begun? r (framed r p (coming p) m) coming'
    pub on_first : (m : Moment) (p i : ℕ) (coming coming' : ℕ → ℕ) → Served r p coming coming' → Reach r p coming → First r m coming i → Gathered? r (framed r p (coming p) m) coming' i
    pub on_later : (m : Moment) (p g i : ℕ) (coming coming' : ℕ → ℕ) → Served r p coming coming' → Reach r p coming → Later r m coming g i → Owes r coming (suc i) → Later r (framed r p (coming p) m) coming' g i
    pub before_none : (m : Moment) (coming : ℕ → ℕ) → Before r m coming → mark_next m ≡ 0
    pub first_none : (m : Moment) (i : ℕ) (coming : ℕ → ℕ) → First r m coming i → mark_next m ≡ 0
    pub later_none : (m : Moment) (g i : ℕ) (coming : ℕ → ℕ) → Later r m coming g i → Owes r coming (suc i) → mark_next m ≡ 0
    pub later_one : (m : Moment) (g i : ℕ) (coming : ℕ → ℕ) → Later r m coming g i → AllCome r coming (suc i) → (mark_next m ≢ 0) × Later r (fetched r m) coming g (suc i)
    pub must_begin : (m : Moment) (coming : ℕ → ℕ) → Before r m coming → Ready r coming → begins (group_at m.rows) m.rows r.ports ≡ true

  -- fetching ends where none is due
  pub drained_none : (k : ℕ) (m : Moment) → mark_next m ≡ 0 → drained r k m ≡ m
  unfolding drained
  drained_none zero m e = refl
  drained_none (suc k) m e = rw (eq-eqb (get_or (record_at r m) 0 0) 0 e) refl

  drained_one : (k : ℕ) (m : Moment) → mark_next m ≢ 0 → mark_next (fetched r m) ≡ 0 → drained r (suc k) m ≡ fetched r m
  unfolding drained
  drained_one k m d e = rw (ne_eqb (get_or (record_at r m) 0 0) 0 d) (drained_none k (fetched r m) e)

  pub coming_is : (t : ℕ) (rest : List ℕ) (p : ℕ) → p < r.ports → coming r t rest p ≡ next_at r t rest p
  unfolding coming
  coming_is t rest p b = rw (lt-ltb p r.ports b) refl

  coming_by : (t u : ℕ) (rest next : List ℕ) → ((p : ℕ) → p < r.ports → next_at r t rest p ≡ next_at r u next p) → coming r t rest ≡ coming r u next
  unfolding coming
  coming_by t u rest next h = λ i p. go p (ltb p r.ports) refl i
    where
      go : (p : ℕ) (b : Bool) → ltb p r.ports ≡ b → cond (ltb p r.ports) (next_at r t rest p) (r.first p) ≡ cond (ltb p r.ports) (next_at r u next p) (r.first p)
      go p true e = rw e (h p (ltb-true p r.ports e))
      go p false e = rw e refl

  coming_first : (f : Fair r) → r.first ≡ coming r zero (r.order zero)
  unfolding coming next_at
  coming_first f = λ i p. go p (ltb p r.ports) refl i
    where
      go : (p : ℕ) (b : Bool) → ltb p r.ports ≡ b → r.first p ≡ cond (ltb p r.ports) (next_at r zero (r.order zero) p) (r.first p)
      go p true e = let w = f.once zero p (ltb-true p r.ports e) in rw (e, w) (omega arith)
      go p false e = rw e refl

  pub served_coming : (t p : ℕ) (ps : List ℕ) → Rest r (p ∷ ps) → r.delay p + r.first p ≤ t → Served r p (coming r t (p ∷ ps)) (coming r t ps)
  unfolding coming
  served_coming t p ps o late =
      let s = served r t p ps o late in
      record { below = s.below; next = rw (lt-ltb p r.ports s.below) s.next; others = λ q d. rw (s.others q d) refl }

  apart_coming : (f : Fair r) (t : ℕ) (rest : List ℕ) → Rest r rest → Apart r (coming r t rest)
  apart_coming f t rest o p q hp hq sp sq =
      rw (coming_is t rest p hp, coming_is t rest q hq) (apart r f t rest o p q hp hq (rw (coming_is t rest p hp) at sp) (rw (coming_is t rest q hq) at sq))

  pub reach_coming : (f : Fair r) (t p : ℕ) (ps : List ℕ) → Rest r (p ∷ ps) → r.delay p + r.first p ≤ t → Reach r p (coming r t (p ∷ ps))
  reach_coming f t p ps o late q b = rw (coming_is t (p ∷ ps) p o.all_below.0, coming_is t (p ∷ ps) q b) (reach r f t p ps o late q b)

  pub turns_more : (t p : ℕ) (done : List ℕ) (m : Moment) → turns r t (done ++ (p ∷ [])) m ≡ turn r t p (turns r t done m)
  unfolding turns
  turns_more t p [] m = refl
  turns_more t p (q ∷ qs) m = turns_more t p qs (turn r t q m)

  pub no_frame : (t p : ℕ) (m : Moment) → t < r.delay p + r.first p → turn r t p m ≡ m
  unfolding turn
  no_frame t p m early = rw (lt-leb (r.delay p + r.first p) t early) refl

  -- one port more, at which they are not ready either
  unready_more : (t p : ℕ) (done ps : List ℕ) → r.order t ≡ done ++ (p ∷ ps) → Unready r t done → (Ready r (coming r t ps) → ⊥) → Unready r t (done ++ (p ∷ []))
  unready_more t p done ps is_order un now u earlier rest e na y = ⊎_elim (λ (h : u < t). un u earlier rest e (inl h) y) same na
    where
      same : (u ≡ t) × (length earlier ≤ length (done ++ (p ∷ []))) → ⊥
      same h =
          let long : length (done ++ (p ∷ [])) ≡ length done + 1 = length-append done (p ∷ []) in
          let l = h.1 in
          ⊎_elim (λ (w : length earlier ≤ length done). un u earlier rest e (inr (h.0, w)) y)
          (λ (w : length done < length earlier).
          let eq : length (done ++ (p ∷ [])) ≡ length earlier = omega arith in
          let whole : done ++ (p ∷ []) ++ ps ≡ earlier ++ rest = append_assoc done (p ∷ []) ps ∙ sym is_order ∙ ap r.order (sym h.0) ∙ e in
          let ends : ps ≡ rest = (append_apart (done ++ (p ∷ [])) earlier ps rest eq whole).1 in
          now (subst (λ (l : List ℕ). Ready r (coming r t l)) (sym ends) (subst (λ (v : ℕ). Ready r (coming r v rest)) h.0 y)))
          (le_or_lt (length earlier) (length done))

  -- the first frame time
  unready_first : (f : Fair r) → Unready r zero []
  unready_first f u earlier rest e na y =
      ⊎_elim (λ (h : u < zero). absurd (not-suc-le-zero h))
      (λ (h : (u ≡ zero) × (length earlier ≤ zero)).
      let n : 1 ≤ r.ports = (sizes_in r f).some_ports in
      let l = frames_some r.kind in
      let from = (start_from_lem r.kind r.offset (r.first zero)).from in
      let i : rest ≡ r.order u = (let none = h.1 in (append_apart earlier [] rest (r.order u) (omega arith) (sym e)).1) in
      let z : coming r u rest ≡ r.first = ap (λ (l : List ℕ). coming r u l) i ∙ ap (λ (v : ℕ). coming r v (r.order v)) h.0 ∙ sym (coming_first f) in
      let w = y.stepped zero n in
      let v : start_from r.kind r.offset (r.first zero) + L r * 2 ≤ r.first zero = subst (λ (k : ℕ → ℕ). start_from r.kind r.offset (r.first zero) + L r * 2 ≤ k zero) z w in
      absurd (omega arith))
      na

  -- the start of the next frame time
  unready_next : (f : Fair r) (t : ℕ) → Unready r t (r.order t) → Unready r (suc t) []
  unready_next f t un u earlier rest e na y = ⊎_elim before_it at_it na
    where
      before_it : u < suc t → ⊥
      before_it h =
          ⊎_elim (λ (q : u ≡ t).
          let l : length (earlier ++ rest) ≡ length earlier + length rest = length-append earlier rest in
          let m : length (r.order t) ≡ length (earlier ++ rest) = ap length (ap r.order (sym q) ∙ e) in
          un u earlier rest e (inr (q, omega arith)) y)
          (λ (q : u ≢ t). un u earlier rest e (inl (omega arith)) y)
          (eq_or_ne u t)

      at_it : (u ≡ suc t) × (length earlier ≤ zero) → ⊥
      at_it h =
          let i : rest ≡ r.order u = (let none = h.1 in (append_apart earlier [] rest (r.order u) (omega arith) (sym e)).1) in
          let z : coming r u rest ≡ coming r t [] = ap (λ (l : List ℕ). coming r u l) i ∙ ap (λ (v : ℕ). coming r v (r.order v)) h.0 ∙ sym (coming_by t (suc t) [] (r.order (suc t)) (λ k b. next_time r f t k b)) in
          un t (r.order t) [] (sym (append-nil (r.order t))) (inr (refl, omega arith)) (subst (λ (k : ℕ → ℕ). Ready r k) z y)

  module _ (m₀ : Moment) where
    -- receiving began at or before this moment
    abbrev Come : (F : ℕ) → Beginning r (reached r m₀) F → ℕ → List ℕ → Type 0
    Come F b t done = NotAfter r b.time (b.done ++ (b.port ∷ [])) t done

    come_more : (F : ℕ) (b : Beginning r (reached r m₀) F) (t p : ℕ) (done : List ℕ) → Come F b t done → Come F b t (done ++ (p ∷ []))
    come_more F b t p done =
        ⊎_elim (λ (h : b.time < t). inl h)
        (λ (h : (b.time ≡ t) × (length (b.done ++ (b.port ∷ [])) ≤ length done)).
        let long : length (done ++ (p ∷ [])) ≡ length done + 1 = length-append done (p ∷ []) in
        let l = h.1 in
        inr (h.0, omega arith))

    come_next : (F : ℕ) (b : Beginning r (reached r m₀) F) (t : ℕ) (done : List ℕ) → Come F b t done → Come F b (suc t) []
    come_next F b t done =
        ⊎_elim (λ (h : b.time < t). inl (omega arith)) (λ (h : (b.time ≡ t) × (length (b.done ++ (b.port ∷ [])) ≤ length done)). let e = h.0 in inl (omega arith))

    -- then not all ports were unready up to it
    pub come_ready : (F : ℕ) (b : Beginning r (reached r m₀) F) (t : ℕ) (done : List ℕ) → Come F b t done → Unready r t done → ⊥
    come_ready F b t done c un =
        un b.time (b.done ++ (b.port ∷ [])) b.rest (b.is_order ∙ sym (append_assoc b.done (b.port ∷ []) b.rest)) c b.ready

    -- what stands at a moment
    pub data Phase (t : ℕ) (done : List ℕ) (m : Moment) (coming : ℕ → ℕ) : Type 0 where
      before : Before r m coming → Unready r t done → Phase t done m coming
      first : (F : ℕ) (b : Beginning r (reached r m₀) F) → Come F b t done → First r m coming (suc (F / L r)) → Phase t done m coming
      later : (F i : ℕ) (b : Beginning r (reached r m₀) F) → Come F b t done → Later r m coming (suc (F / L r)) i → Owes r coming (suc i) → Phase t done m coming

    module _ (f : Fair r) (s : CallsDo) where
      drained_wide : (w : ℕ) (m : Moment) → 0 < w → mark_next m ≢ 0 → mark_next (fetched r m) ≡ 0 → drained r w m ≡ fetched r m
      drained_wide zero m h d e = absurd (not-suc-le-zero h)
      drained_wide (suc k) m h d e = drained_one k m d e

      -- the port that owed last owes of the next epoch
      owes_next : (p i : ℕ) (n n' : ℕ → ℕ) → Served r p n n' → Owes r n i → AllCome r n' i → Owes r n' (suc i)
      owes_next p i n n' sv o all =
          ⊎_elim
          (λ (e : o.port ≡ p).
          let a : n o.port < i * L r + L r = o.owes in
          let b : n p < i * L r + L r = rw e at a in
          let c : n' p ≡ n p + 1 = sv.next in
          let l = frames_some r.kind in
          let one = one_epoch i (L r) in
          record { port = p; below = sv.below; owes = rw one (omega arith) })
          (λ (d : o.port ≢ p).
          let a = o.owes in
          let b = all o.port o.below in
          let c = sv.others o.port d in
          absurd (omega arith))
          (eq_or_ne o.port p)

      -- One port's turn with a frame.
      module _ (t p : ℕ) (done ps : List ℕ) (is_order : r.order t ≡ done ++ (p ∷ ps)) (o : Rest r (p ∷ ps)) (late : r.delay p + r.first p ≤ t) where
        abbrev here : Moment
        here = reached r m₀ t done

        abbrev there : Moment
        there = framed r p (t - r.delay p) here

        position : coming r t (p ∷ ps) p ≡ t - r.delay p
        position = coming_is t (p ∷ ps) p o.all_below.0 ∙ served_at r t p ps o late

        moved : Served r p (coming r t (p ∷ ps)) (coming r t ps)
        moved = served_coming t p ps o late

        one_turn : turn r t p here ≡ drained r r.window there
        unfolding turn
        one_turn = rw (le-leb (r.delay p + r.first p) t late) refl

        quiet : mark_next there ≡ 0 → turn r t p here ≡ there
        quiet e = one_turn ∙ drained_none r.window there e

        now_begun : (m : Moment) → turn r t p here ≡ m → has_begun m ≡ 1 → has_begun (reached r m₀ t (done ++ (p ∷ []))) ≡ 1
        now_begun m e b = ap has_begun (turns_more t p done (through r t m₀) ∙ e) ∙ b

        abbrev Next : Type 0
        Next = Phase t (done ++ (p ∷ [])) (turn r t p here) (coming r t ps)

        as_phase : (m : Moment) → turn r t p here ≡ m → Phase t (done ++ (p ∷ [])) m (coming r t ps) → Next
        as_phase m e q = subst (λ (n : Moment). Phase t (done ++ (p ∷ [])) n (coming r t ps)) (sym e) q

        -- a frame handed before the beginning, or with which it comes, is as sent
        sent_then : Unready r t done → SentWith r.kind (r.offset + coming r t (p ∷ ps) p) (r.h4 p (coming r t (p ∷ ps) p))
        sent_then un = rw position (f.counted t p done ps o.all_below.0 is_order late un)

        from_before : Before r here (coming r t (p ∷ ps)) → Unready r t done → Next
        from_before b un = go (rw position at (s.on_before here p (coming r t (p ∷ ps)) (coming r t ps) moved (apart_coming f t ps (rest_tail r p ps o)) (sent_then un) b))
          where
            go : Begun? r there (coming r t ps) → Next
            go (stays c) =
                as_phase there (quiet (s.before_none there (coming r t ps) c))
                (before c (unready_more t p done ps is_order un (λ y. true≢false (sym (s.must_begin there (coming r t ps) c y) ∙ c.unfit))))
            go (comes F fore y c) =
                let e = quiet (s.first_none there (suc (F / L r)) (coming r t ps) c) in
                as_phase there e
                (first F (record {
                  time = t;
                  done = done;
                  port = p;
                  rest = ps;
                  is_order = is_order;
                  not_yet = b.begun;
                  begun = now_begun there e c.open_at.begun;
                  foremost = fore;
                  ready = y;
                  unready = un;
                }) (inr (refl, omega arith)) c)

        from_first : (F : ℕ) (b : Beginning r (reached r m₀) F) → Come F b t done → First r here (coming r t (p ∷ ps)) (suc (F / L r)) → Next
        from_first F b come c = go (rw position at (s.on_first here p (suc (F / L r)) (coming r t (p ∷ ps)) (coming r t ps) moved (reach_coming f t p ps o late) c))
          where
            go : Gathered? r there (coming r t ps) (suc (F / L r)) → Next
            go (waits d) = as_phase there (quiet (s.first_none there (suc (F / L r)) (coming r t ps) d)) (first F b (come_more F b t p done come) d)
            go (gathers d w) =
                as_phase there (quiet (s.later_none there (suc (F / L r)) (suc (F / L r)) (coming r t ps) d w)) (later F (suc (F / L r)) b (come_more F b t p done come) d w)

        from_later : (F i : ℕ) → 0 < r.window → (b : Beginning r (reached r m₀) F) → Come F b t done → Later r here (coming r t (p ∷ ps)) (suc (F / L r)) i → Owes r (coming r t (p ∷ ps)) (suc i) → Next
        from_later F i wide b come c w = go (rw position at (s.on_later here p (suc (F / L r)) i (coming r t (p ∷ ps)) (coming r t ps) moved (reach_coming f t p ps o late) c w))
          where
            go : Later r there (coming r t ps) (suc (F / L r)) i → Next
            go d = ⊎_elim some_owe none_owe (owes_or_come r (coming r t ps) (suc i))
              where
                some_owe : Owes r (coming r t ps) (suc i) → Next
                some_owe v = as_phase there (quiet (s.later_none there (suc (F / L r)) i (coming r t ps) d v)) (later F i b (come_more F b t p done come) d v)

                none_owe : AllCome r (coming r t ps) (suc i) → Next
                none_owe all =
                    let l = s.later_one there (suc (F / L r)) i (coming r t ps) d all in
                    let v : Owes r (coming r t ps) (suc (suc i)) = owes_next p (suc i) (coming r t (p ∷ ps)) (coming r t ps) moved w all in
                    let e = s.later_none (fetched r there) (suc (F / L r)) (suc i) (coming r t ps) l.1 v in
                    as_phase (fetched r there) (one_turn ∙ drained_wide r.window there wide l.0 e) (later F (suc i) b (come_more F b t p done come) l.1 v)

      wide : 0 < r.window
      wide = window_some r.kind r.ports r.payload r.window (sizes_in r f)

      -- one port's turn, with or without a frame
      turned : (t p : ℕ) (done ps : List ℕ) → r.order t ≡ done ++ (p ∷ ps) → Rest r (p ∷ ps) → Phase t done (reached r m₀ t done) (coming r t (p ∷ ps))
          → Phase t (done ++ (p ∷ [])) (reached r m₀ t (done ++ (p ∷ []))) (coming r t ps)
      turned t p done ps is_order o q =
          subst (λ (m : Moment). Phase t (done ++ (p ∷ [])) m (coming r t ps)) (sym (turns_more t p done (through r t m₀)))
          (⊎_elim (λ (late : r.delay p + r.first p ≤ t). with_frame late q) (λ (early : t < r.delay p + r.first p). without early q) (le_or_lt (r.delay p + r.first p) t))
        where
          with_frame : r.delay p + r.first p ≤ t → Phase t done (reached r m₀ t done) (coming r t (p ∷ ps)) → Phase t (done ++ (p ∷ [])) (turn r t p (reached r m₀ t done)) (coming r t ps)
          with_frame late (before b un) = from_before t p done ps is_order o late b un
          with_frame late (first F b come c) = from_first t p done ps is_order o late F b come c
          with_frame late (later F i b come c w) = from_later t p done ps is_order o late F i wide b come c w

          without : t < r.delay p + r.first p → Phase t done (reached r m₀ t done) (coming r t (p ∷ ps)) → Phase t (done ++ (p ∷ [])) (turn r t p (reached r m₀ t done)) (coming r t ps)
          without early q =
              subst (λ (m : Moment). Phase t (done ++ (p ∷ [])) m (coming r t ps)) (sym (no_frame t p (reached r m₀ t done) early))
              (go q)
            where
              same : coming r t (p ∷ ps) ≡ coming r t ps
              same = coming_by t t (p ∷ ps) ps (λ k b. unserved r t p ps o early k)

              go : Phase t done (reached r m₀ t done) (coming r t (p ∷ ps)) → Phase t (done ++ (p ∷ [])) (reached r m₀ t done) (coming r t ps)
              go (before b un) =
                  before (subst (λ (n : ℕ → ℕ). Before r (reached r m₀ t done) n) same b)
                  (unready_more t p done ps is_order un (λ y. un t done (p ∷ ps) is_order (inr (refl, omega arith)) (subst (λ (n : ℕ → ℕ). Ready r n) (sym same) y)))
              go (first F b come c) = first F b (come_more F b t p done come) (subst (λ (n : ℕ → ℕ). First r (reached r m₀ t done) n (suc (F / L r))) same c)
              go (later F i b come c w) =
                  later F i b (come_more F b t p done come) (subst (λ (n : ℕ → ℕ). Later r (reached r m₀ t done) n (suc (F / L r)) i) same c) (subst (λ (n : ℕ → ℕ). Owes r n (suc i)) same w)

      -- the ports of a frame time, one after the other
      served_all : (t : ℕ) (done ps rest : List ℕ) → r.order t ≡ done ++ (ps ++ rest) → Rest r (ps ++ rest) → Phase t done (reached r m₀ t done) (coming r t (ps ++ rest))
          → Phase t (done ++ ps) (reached r m₀ t (done ++ ps)) (coming r t rest)
      served_all t done [] rest is_order o q = rw (append-nil done) q
      served_all t done (p ∷ ps) rest is_order o q =
          let next = turned t p done (ps ++ rest) is_order o q in
          let e : r.order t ≡ done ++ (p ∷ []) ++ (ps ++ rest) = is_order ∙ sym (append_assoc done (p ∷ []) (ps ++ rest)) in
          let all = served_all t (done ++ (p ∷ [])) ps rest e (rest_tail r p (ps ++ rest) o) next in
          subst (λ (l : List ℕ). Phase t l (reached r m₀ t l) (coming r t rest)) (append_assoc done (p ∷ []) ps) all

      -- every frame time from its start
      at_start_lem : Before r m₀ r.first → (t : ℕ) → Phase t [] (reached r m₀ t []) (coming r t (r.order t))
      unfolding turns through
      at_start_lem b zero = before (subst (λ (n : ℕ → ℕ). Before r m₀ n) (coming_first f) b) (unready_first f)
      at_start_lem b (suc t) =
          let all = served_all t [] (r.order t) [] (sym (append-nil (r.order t))) (rw (append-nil (r.order t)) (rest_all r f t)) (rw (append-nil (r.order t)) (at_start_lem b t)) in
          go all
        where
          same : coming r t [] ≡ coming r (suc t) (r.order (suc t))
          same = coming_by t (suc t) [] (r.order (suc t)) (λ k h. next_time r f t k h)

          go : Phase t (r.order t) (reached r m₀ t (r.order t)) (coming r t []) → Phase (suc t) [] (reached r m₀ t (r.order t)) (coming r (suc t) (r.order (suc t)))
          go (before c un) = before (subst (λ (n : ℕ → ℕ). Before r (reached r m₀ t (r.order t)) n) same c) (unready_next f t un)
          go (first F c come d) = first F c (come_next F c t (r.order t) come) (subst (λ (n : ℕ → ℕ). First r (reached r m₀ t (r.order t)) n (suc (F / L r))) same d)
          go (later F i c come d w) =
              later F i c (come_next F c t (r.order t) come) (subst (λ (n : ℕ → ℕ). Later r (reached r m₀ t (r.order t)) n (suc (F / L r)) i) same d) (subst (λ (n : ℕ → ℕ). Owes r n (suc i)) same w)

      -- every moment
      pub phase : Before r m₀ r.first → (t : ℕ) (done rest : List ℕ) → r.order t ≡ done ++ rest → Phase t done (reached r m₀ t done) (coming r t rest)
      phase b t done rest e =
          served_all t [] done rest e (rw e at (rest_all r f t)) (rw e at (at_start_lem b t))

      -- 'A fresh receiver begins within 48 frames of the last port's first': after 47, the first counted as 1.
      module _ (fresh_start : Before r m₀ r.first) (T : ℕ) (all_come : (p : ℕ) → p < r.ports → r.delay p + r.first p ≤ T) where
        abbrev by : ℕ
        by = T + (L r * 3 - 1)

        position_by : (q : ℕ) → q < r.ports → coming r by (r.order by) q ≡ by - r.delay q
        unfolding next_at
        position_by q b =
            let l = frames_some r.kind in
            let c = all_come q b in
            coming_is by (r.order by) q b ∙ rw (f.once by q b) (omega arith)

        stepped : (q : ℕ) → q < r.ports → start_from r.kind r.offset (r.first q) + L r * 2 ≤ coming r by (r.order by) q
        stepped q b =
            let soon = (start_from_lem r.kind r.offset (r.first q)).soon in
            let c = all_come q b in
            let l = frames_some r.kind in
            rw (position_by q b) (omega arith)

        near : (p q : ℕ) → p < r.ports → q < r.ports → coming r by (r.order by) p + L r ≤ coming r by (r.order by) q + r.window
        near p q hp hq =
            let c = all_come p hp in
            let d = all_come q hq in
            let l = frames_some r.kind in
            let w = f.spread q p hq hp in
            rw (position_by p hp, position_by q hq) (omega arith)

        pub begun_by : has_begun (reached r m₀ by []) ≡ 1
        begun_by = go (phase fresh_start by [] (r.order by) refl)
          where
            go : Phase by [] (reached r m₀ by []) (coming r by (r.order by)) → has_begun (reached r m₀ by []) ≡ 1
            go (before b un) = absurd (true≢false (sym (s.must_begin (reached r m₀ by []) (coming r by (r.order by)) b (record { stepped = stepped; near = near })) ∙ b.unfit))
            go (first F b come c) = c.open_at.begun
            go (later F i b come c w) = c.open_at.begun

      -- What every frame keeps, and every report of an epoch that all ports have brought, holds at every moment.
      module _ (P : Moment → Type 0) (frame : (p x : ℕ) (m : Moment) → P m → P (framed r p x m))
          (report : (F i : ℕ) (m : Moment) (n : ℕ → ℕ) → Beginning r (reached r m₀) F → Later r m n (suc (F / L r)) i → AllCome r n (suc i) → P m → P (fetched r m)) where
        -- one port's turn with a frame
        module _ (t p : ℕ) (done ps : List ℕ) (is_order : r.order t ≡ done ++ (p ∷ ps)) (o : Rest r (p ∷ ps)) (late : r.delay p + r.first p ≤ t) (held : P (reached r m₀ t done)) where
          abbrev now : Moment
          now = reached r m₀ t done

          abbrev served_now : Moment
          served_now = framed r p (t - r.delay p) now

          abbrev from : ℕ → ℕ
          from = coming r t (p ∷ ps)

          abbrev to : ℕ → ℕ
          to = coming r t ps

          holds : P served_now
          holds = frame p (t - r.delay p) now held

          none_due_lem : mark_next served_now ≡ 0 → P (turn r t p now)
          none_due_lem e = subst P (sym (quiet t p done ps is_order o late e)) holds

          serves : Served r p from to
          serves = moved t p done ps is_order o late

          at_place : from p ≡ t - r.delay p
          at_place = position t p done ps is_order o late

          keeps_frame : Phase t done now from → P (turn r t p now)
          keeps_frame (before b un) = go (rw at_place at (s.on_before now p from to serves (apart_coming f t ps (rest_tail r p ps o)) (sent_then t p done ps is_order o late un) b))
            where
              go : Begun? r served_now to → P (turn r t p now)
              go (stays c) = none_due_lem (s.before_none served_now to c)
              go (comes F fore y c) = none_due_lem (s.first_none served_now (suc (F / L r)) to c)
          keeps_frame (first F b come c) = go (rw at_place at (s.on_first now p (suc (F / L r)) from to serves (reach_coming f t p ps o late) c))
            where
              go : Gathered? r served_now to (suc (F / L r)) → P (turn r t p now)
              go (waits d) = none_due_lem (s.first_none served_now (suc (F / L r)) to d)
              go (gathers d v) = none_due_lem (s.later_none served_now (suc (F / L r)) (suc (F / L r)) to d v)
          keeps_frame (later F i b come c v) = go (rw at_place at (s.on_later now p (suc (F / L r)) i from to serves (reach_coming f t p ps o late) c v))
            where
              go : Later r served_now to (suc (F / L r)) i → P (turn r t p now)
              go d =
                  ⊎_elim (λ (x : Owes r to (suc i)). none_due_lem (s.later_none served_now (suc (F / L r)) i to d x))
                  (λ (all : AllCome r to (suc i)).
                  let l = s.later_one served_now (suc (F / L r)) i to d all in
                  let x : Owes r to (suc (suc i)) = owes_next p (suc i) from to serves v all in
                  let e = s.later_none (fetched r served_now) (suc (F / L r)) (suc i) to l.1 x in
                  subst P (sym (one_turn t p done ps is_order o late ∙ drained_wide r.window served_now wide l.0 e)) (report F i served_now to b d all holds))
                  (owes_or_come r to (suc i))

        module _ (fresh_start : Before r m₀ r.first) (at_first : P m₀) where
          keeps_all : (t : ℕ) (done ps rest : List ℕ) → r.order t ≡ done ++ (ps ++ rest) → Rest r (ps ++ rest) → P (reached r m₀ t done) → P (reached r m₀ t (done ++ ps))
          keeps_all t done [] rest is_order o w = rw (append-nil done) w
          keeps_all t done (p ∷ ps) rest is_order o w =
              let more : P (turn r t p (reached r m₀ t done)) =
              ⊎_elim (λ (late : r.delay p + r.first p ≤ t). keeps_frame t p done (ps ++ rest) is_order o late w (phase fresh_start t done (p ∷ (ps ++ rest)) is_order))
              (λ (early : t < r.delay p + r.first p). subst P (sym (no_frame t p (reached r m₀ t done) early)) w)
              (le_or_lt (r.delay p + r.first p) t) in
              let e : r.order t ≡ done ++ (p ∷ []) ++ (ps ++ rest) = is_order ∙ sym (append_assoc done (p ∷ []) (ps ++ rest)) in
              subst (λ (l : List ℕ). P (reached r m₀ t l)) (append_assoc done (p ∷ []) ps)
              (keeps_all t (done ++ (p ∷ [])) ps rest e (rest_tail r p (ps ++ rest) o) (subst P (sym (turns_more t p done (through r t m₀))) more))

          keeps_from : (t : ℕ) → P (reached r m₀ t [])
          unfolding turns through
          keeps_from zero = at_first
          keeps_from (suc t) = keeps_all t [] (r.order t) [] (sym (append-nil (r.order t))) (rw (append-nil (r.order t)) (rest_all r f t)) (keeps_from t)

          pub along : (t : ℕ) (done rest : List ℕ) → r.order t ≡ done ++ rest → P (reached r m₀ t done)
          along t done rest e = keeps_all t [] done rest e (rw e at (rest_all r f t)) (keeps_from t)
