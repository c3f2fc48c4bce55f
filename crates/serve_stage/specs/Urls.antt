-- The URLs of workers.
use Rattle.std.specs.Prelude.{ℕ, ◌+◌, List, ◌++◌, codes, decimal}

-- the URL of the worker with this number: the ports of all workers follow one another
abbrev pub worker_url : ℕ → ℕ → List ℕ
worker_url port number = codes "ws://127.0.0.1:" ++ decimal (port + number)
