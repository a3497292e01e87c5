use Rattle.std.proofs.Common.{◌≡◌, ◌<◌, arith, refl}
use Rattle.spoken.proofs.Listing.{listing_all, listing_changed, listing_none, listing_same}
use Rattle.spoken.proofs.comparing.changes_in.Goals as goal
use Rattle.spoken.proofs.comparing.changes_in.Goals.{then-ne, else-ne}

pub loop-i-init : goal.loop-i-init
loop-i-init c = record { listing = listing_none _ _ _ c.none.ensures; wait = refl }

pub push-requires : goal.push-requires
push-requires c = let l = c.loop-i.invariant.listing.at_most in omega arith

pub loop-i-preserved : goal.loop-i-preserved
loop-i-preserved c =
    let h : c.loop-i.i < 64 = omega arith in
    let o = c.loop-i.invariant.listing in
    elim c.if-ne.branch [
      | then-ne w ↦ rw (w.changes-is, w.push.ensures) (record { listing = listing_changed _ _ _ o h c.ne.ensures w.if-ne.true; wait = c.loop-i.invariant.wait })
      | else-ne w ↦ rw w.changes-is (record { listing = listing_same _ _ _ o h c.ne.ensures w.if-ne.false; wait = c.loop-i.invariant.wait })
    ]

pub returns : goal.returns
returns c =
    let e : c.loop-i.i ≡ c.args.n = omega arith in
    rw (← c.loop-i.invariant.wait) (listing_all c.args.old.now c.args.new.now c.args.n c.loop-i.changes.wait c.loop-i.invariant.listing e)
