-- The edges of a network as the flattener gathers them.
use Rattle.std.specs.Prelude.{ℕ, ◌*◌, ◌≤◌, min, ◌≡◌, List, [], ◌∷◌, ◌++◌, length, take}
use Rattle.lists.specs.Lists.{concat}
use Rattle.network_records.specs.Network.{Edge}
use Rattle.flattening.specs.File.{out2}
use Rattle.flatten_edges.specs.declared.head.Head.{Head}

-- the code's edge, but for its label's body
abbrev pub head_of : Edge → Head
head_of e = record {
  source = e.source;
  target = e.target;
  transition = e.transition;
  exit = e.exit;
  tested = e.tested;
  needed = e.needed;
  written = e.written;
  values = e.values;
  signal = e.label.signal;
  channel = e.label.channel;
  resets = e.label.resets;
}

-- its bytes
unfoldable pub head_bytes : Head → List ℕ
head_bytes h =
    h.source ∷ h.target ∷ h.transition ∷ h.exit ∷ out2 h.tested ++ (out2 h.needed
    ++ (h.written ∷ h.values ∷ h.signal ∷ h.channel ∷ h.resets ∷ []))

-- the heads of these edges stand one after the other; past 1,024 edges they are only known to be too many
pub record Gathered (heads : List ℕ) (count : ℕ) (es : List Edge) : Type 0 where
  pub counted : count ≡ min (length es) 1025
  pub stand : length es ≤ 1024 → take (13 * length es) heads ≡ concat (λ e. head_bytes (head_of e)) es
