-- `lines::write::Writer::gauge` meets its contract: its ways out are the three cases of what a gauge adds. Assumes nothing.
use mathlib.Core.List.{◌∷◌}
use mathlib.Core.Path.{◌≡◌, ap}
use native.Mathlib.Omega.{arith}
use Prim.Native.Nat.{ℕ, ◌-◌, ◌≤◌}
use lib.ListN.{length}
use Rattle.gauges.specs.Sets.{Member}
use Rattle.lines.specs.Text.{decimal}
use Rattle.lines.specs.Pieces.{more}
use Rattle.lines.proofs.Placing.{adds_none, adds_then, adds_as}
use Rattle.lines.proofs.GaugeTexts.{more_first, more_next, more_none}
use Rattle.lines.proofs.write.Writer.gauge.Goals.{then-from-self, else-from-self}
use Rattle.lines.proofs.write.Writer.gauge.Goals as goal

-- a member, with nothing before it
first : (members k from to : ℕ) → Member k members → from ≡ to → more members k (to - from) ≡ decimal k
first members k from to h e = more_first members k (to - from) h (omega arith)

-- a member, with another before it
next : (members k from to : ℕ) → Member k members → (from ≡ to → ⊥) → from ≤ to → more members k (to - from) ≡ 44 ∷ decimal k
next members k from to h f l = more_next members k (to - from) h (λ e. f (omega arith))

pub byte-requires : goal.byte-requires
byte-requires c = omega (arith, ap length (next c.args.members c.args.k c.args.from c.args.self.now.at (c.has.ensures.holds c.if-has.true) c.if-from-self.true c.requires.0))

pub decimal-requires : goal.decimal-requires
decimal-requires c =
    let a = c.args in
    let member = c.has.ensures.holds c.if-has.true in
    elim c.if-from-self.branch [
      | then-from-self w ↦ rw w.self-is (omega (arith, w.byte.ensures.placed.size, w.byte.ensures.upto, ap length (next a.members a.k a.from a.self.now.at member w.if-from-self.true c.requires.0)))
      | else-from-self w ↦ rw w.self-is (omega (arith, ap length (first a.members a.k a.from a.self.now.at member w.if-from-self.false)))
    ]

pub returns-after-from-self : goal.returns-after-from-self
returns-after-from-self c =
    let a = c.args in
    let member = c.has.ensures.holds c.if-has.true in
    elim c.if-from-self.branch [
      | then-from-self w ↦ adds_as (adds_then w.byte.ensures (rw w.self-is at c.decimal.ensures)) (next a.members a.k a.from a.self.now.at member w.if-from-self.true c.requires.0)
      | else-from-self w ↦ adds_as (rw w.self-is at c.decimal.ensures) (first a.members a.k a.from a.self.now.at member w.if-from-self.false)
    ]

pub returns-else-has : goal.returns-else-has
returns-else-has c = adds_as (adds_none c.args.self.now) (more_none c.args.members c.args.k (c.args.self.now.at - c.args.from) (c.has.ensures.fails c.if-has.false))
