-- The rows of a stored matrix are the rows of the matrix of a case.
use Rattle.test_rust.proofs.table.TableMatrix.piece.Goals as goal

pub returns-in-Rows : goal.returns-in-Rows
returns-in-Rows g c = rw c.in-Rows.is c.piece.ensures
