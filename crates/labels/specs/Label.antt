-- A label: the part of a transition or an edge from its signal on.
use Rattle.std.specs.Prelude.{ℕ, ◌^◌, Bool, cond, not, ◌&&◌, ◌||◌, List, ℤ, ltb, eqb, length}
use Rattle.lists.specs.Lists.{all, distinct}
use Rattle.reading.specs.Reading.{Reader, yield, next, ◌>>=◌, byte, such, many}
use Rattle.labels.specs.Guard.{Guard, guard, holds}
use Rattle.updates.specs.Update.{Update, update, targets}
use Rattle.labels.specs.declared.label.Limits.{Limits}

-- what the labels of a file may hold: `Limits` is the code's type
abbrev pub limits : ℕ → ℕ → ℕ → Limits
limits version clocks variables = record { version = version; clocks = clocks; variables = variables }

pub record Body : Type 0 where
  pub guards : List Guard
  pub updates : List Update

pub record Label : Type 0 where
  pub signal : ℕ
  pub channel : ℕ
  pub resets : ℕ
  pub body : Body
  pub bytes : List ℕ  -- those that the body was read from

-- the body: two counts, the guards, the assignments
unfoldable pub body : Limits → Reader Body
body l = do
  g ← byte
  a ← byte
  gs ← many g (guard l.clocks l.variables)
  us ← many a (update l.version l.variables)
  yield (record { guards = gs; updates = us })

-- 255 without a signal, and else one of the channels
unfoldable pub channel_fits : ℕ → ℕ → ℕ → Bool
channel_fits channels signal channel = cond (eqb signal 0) (eqb channel 255) (ltb channel channels)

-- a label stands last in its record, so the bytes of its body are what is left after the resets
unfoldable pub label : Limits → ℕ → Reader Label
label l channels = do
  s ← such byte (λ s. ltb s 3)
  c ← such byte (channel_fits channels s)
  r ← such byte (λ r. ltb r (2 ^ l.clocks))
  λ bytes. next (body l bytes) (λ b. yield (record { signal = s; channel = c; resets = r; body = b; bytes = bytes }))

-- rule 13: a receiver has no update, and no variable is written twice
unfoldable pub body_once : ℕ → Body → Bool
body_once signal b = (not (eqb signal 2) || eqb (length b.updates) 0) && distinct (targets b.updates)

unfoldable pub assigns_once : Label → Bool
unfolding body_once
assigns_once l = body_once l.signal l.body

-- what the code keeps of a label: all but what its body means, which is read again where it is needed
pub record Heading : Type 0 where
  pub signal : ℕ
  pub channel : ℕ
  pub resets : ℕ
  pub once : Bool  -- rule 13 is kept
  pub bytes : List ℕ

unfoldable pub heading : Label → Heading
unfolding assigns_once
heading l = record { signal = l.signal; channel = l.channel; resets = l.resets; once = assigns_once l; bytes = l.bytes }

unfoldable pub sends : Label → ℕ → Bool
sends l ch = eqb l.signal 1 && eqb l.channel ch

unfoldable pub receives : Label → ℕ → Bool
receives l ch = eqb l.signal 2 && eqb l.channel ch

unfoldable pub guards_hold : List ℤ → List ℕ → Label → Bool
guards_hold vars clocks l = all (holds vars clocks) l.body.guards
