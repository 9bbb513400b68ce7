-- Files of the first version give what they gave before there was a second: of a file that does not begin with 2 every operation
-- answers what it would by the readers of that time, which know no advance (`first_chart`, `first_network`). All that comes after reading
-- takes what was read; by `first_targets` and `first_assign` (labels) an assignment writes and sets what it did.
use mathlib.Core.Path.{◌≡◌, ap}
use mathlib.Core.Logic.{◌≢◌}
use mathlib.Core.List.{List}
use Prim.Native.Nat.{ℕ}
use lib.Dec.{leb}
use lib.ListN.{length, get_or}
use Rattle.reading.specs.Answer.{Answer, done, unless, ◌>>=◌}
use Rattle.chart_records.specs.Chart.{Chart}
use Rattle.chart_records.specs.Rules.{chart_of}
use Rattle.chart_moves.specs.Machine as chart
use Rattle.chart_moves.specs.declared.configuration.Configuration.{Configuration}
use Rattle.network_records.specs.Network.{Network, network_of}
use Rattle.network_moves.specs.Machine as network
use Rattle.network_moves.specs.declared.configuration.Configuration as net
use Rattle.chart_records.proofs.FirstVersion.{first_chart, first_chart_lem}
use Rattle.network_records.proofs.FirstVersion.{first_network, first_network_lem}
use Rattle.flattening.specs.Flatten.{flatten}
use Rattle.flattening.specs.File.{network_bytes, fitted, flatten_of}

-- the operations on a chart's file
pub record ChartAsBefore (file : List ℕ) : Type 0 where
  pub check : chart_of file ≡ first_chart file
  pub flattens : (room : ℕ) → flatten_of file room ≡ (first_chart file >>= λ c. unless 15 (leb (length (flatten c).edges) 1024) (fitted room (network_bytes (flatten c))))
  pub starts : chart.start_of file ≡ (first_chart file >>= λ c. done (chart.start c))
  pub steps : (σ : Configuration) (ms : List ℕ) → chart.step_of file σ ms ≡ (first_chart file >>= λ c. chart.step c σ ms)
  pub waits : (σ : Configuration) (d : ℕ) → chart.wait_of file σ d ≡ (first_chart file >>= λ c. chart.wait c σ d)
  pub longest : (σ : Configuration) → chart.longest_of file σ ≡ (first_chart file >>= λ c. chart.longest c σ)

-- and on a network's
pub record NetworkAsBefore (file : List ℕ) : Type 0 where
  pub starts : network.start_of file ≡ (first_network file >>= λ n. done (network.start n))
  pub steps : (ν : net.Configuration) (ms : List ℕ) → network.step_of file ν ms ≡ (first_network file >>= λ n. network.step n ν ms)
  pub waits : (ν : net.Configuration) (d : ℕ) → network.wait_of file ν d ≡ (first_network file >>= λ n. network.wait n ν d)
  pub longest : (ν : net.Configuration) → network.longest_of file ν ≡ (first_network file >>= λ n. network.longest n ν)

module _ (file : List ℕ) (first : get_or file 0 0 ≢ 2) where
  pub chart_as_before : ChartAsBefore file
  unfolding flatten_of chart.start_of chart.step_of chart.wait_of chart.longest_of
  chart_as_before = record {
    check = first_chart_lem file first;
    flattens = λ room. by (λ c. unless 15 (leb (length (flatten c).edges) 1024) (fitted room (network_bytes (flatten c))));
    starts = by (λ c. done (chart.start c));
    steps = λ σ ms. by (λ c. chart.step c σ ms);
    waits = λ σ d. by (λ c. chart.wait c σ d);
    longest = λ σ. by (λ c. chart.longest c σ);
  }
    where
      by : {A : Type 0} (k : Chart → Answer A) → (chart_of file >>= k) ≡ (first_chart file >>= k)
      by k = ap (λ (a : Answer Chart). a >>= k) (first_chart_lem file first)

  pub network_as_before : NetworkAsBefore file
  unfolding network.start_of network.step_of network.wait_of network.longest_of
  network_as_before = record {
    starts = by (λ n. done (network.start n));
    steps = λ ν ms. by (λ n. network.step n ν ms);
    waits = λ ν d. by (λ n. network.wait n ν d);
    longest = λ ν. by (λ n. network.longest n ν);
  }
    where
      by : {A : Type 0} (k : Network → Answer A) → (network_of file >>= k) ≡ (first_network file >>= k)
      by k = ap (λ (a : Answer Network). a >>= k) (first_network_lem file first)
