-- METHOD. What the writer is after words were put.
--
-- Puts p q ws     the writer was p and is q, over the same room: the words ws were written from its place on
-- puts_none       nothing was put
use Rattle.std.specs.Prelude.{◌≡◌, refl, List, [], ℕ}
use Rattle.emit.specs.declared.writer.Writer.{Writer}
use Rattle.emit.specs.Wrote.{Wrote, wrote_none}

pub record Puts (p q : Writer) (ws : List ℕ) : Type 0 where
  pub same_room : q.room.ghost_name ≡ p.room.ghost_name
  pub wrote : Wrote p.at ws p.room.now q.room.now q.at

pub puts_none : (p : Writer) → Puts p p []
puts_none p = record { same_room = refl; wrote = wrote_none p.at p.room.now }
