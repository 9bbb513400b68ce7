-- The file of a network, and flattening as an operation on files.
use Rattle.std.specs.Prelude.{ℕ, zero, suc, ◌+◌, ◌*◌, ◌-◌, ◌^◌, ◌/◌, ◌%◌, Bool, true, false, not, ◌&&◌, ◌||◌, List, [], ◌∷◌, ◌++◌, map, leb, ltb, eqb, get_or, length, take, drop}
use Rattle.lists.specs.Lists.{concat}
use Rattle.labels.specs.Label.{Label}
use Rattle.reading.specs.Answer.{Answer, done, refused, unless, ◌>>=◌}
use Rattle.network_records.specs.Network.{Location, Edge, Network}
use Rattle.chart_records.specs.Rules.{chart_of}
use Rattle.flattening.specs.Flatten.{flatten}

unfoldable pub out2 : ℕ → List ℕ
out2 n = n / 256 % 256 ∷ n % 256 ∷ []

unfoldable pub out4 : ℕ → List ℕ
out4 n = n / 2 ^ 24 % 256 ∷ n / 2 ^ 16 % 256 ∷ n / 256 % 256 ∷ n % 256 ∷ []

unfoldable pub location_bytes : ℕ → Location → List ℕ
location_bytes clocks l = l.automaton ∷ l.urgent ∷ l.initial ∷ concat out4 (take clocks l.bounds)

unfoldable pub edge_bytes : Edge → List ℕ
edge_bytes e =
    e.source ∷ e.target ∷ e.transition ∷ e.exit ∷ out2 e.tested ++ (out2 e.needed
    ++ (e.written ∷ e.values ∷ e.label.signal ∷ e.label.channel ∷ e.label.resets ∷ e.label.bytes))

unfoldable pub record_bytes : (ℕ → List ℕ) → List ℕ → List ℕ
record_bytes out s = out (length s) ++ s

unfoldable pub content_bytes : Network → List ℕ
content_bytes n =
    n.automata ∷ length n.locations ∷ out2 (length n.edges)
    ++ (n.clocks ∷ n.variables ∷ n.rendezvous ∷ n.broadcasts
    ∷ concat (λ l. record_bytes (λ k. k ∷ []) (location_bytes n.clocks l)) n.locations
    ++ concat (λ e. record_bytes out2 (edge_bytes e)) n.edges)

unfoldable pub network_bytes : Network → List ℕ
network_bytes n = n.version ∷ record_bytes out4 (content_bytes n)

-- the network's bytes, if a lent buffer of so many bytes holds them
unfoldable pub fitted : ℕ → List ℕ → Answer (List ℕ)
fitted room s = unless 16 (leb (length s) room) (done s)

unfoldable pub flatten_of : List ℕ → ℕ → Answer (List ℕ)
flatten_of file room = chart_of file >>= λ c.
    let n = flatten c in
    unless 15 (leb (length n.edges) 1024) (fitted room (network_bytes n))
