use borrow.Author.Tests.{le-leb, lt-leb}
use Rattle.network_records.specs.Network.{headed}
use Rattle.network_records.proofs.header.headed.Goals as goal

pub returns-then-file-lt13 : goal.returns-then-file-lt13
unfolding headed
returns-then-file-lt13 c = rw (lt-leb 13 _ c.if-file-lt13.true)

pub returns : goal.returns
unfolding headed
returns c = rw (le-leb 13 _ c.if-file-lt13.false, c.word_of-length.ensures, c.is_version.ensures)
