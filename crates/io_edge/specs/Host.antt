-- What clauses read of the devices of the system: how often each failed, and which stream a sink is.
use Rattle.std.specs.Prelude.{ℕ}
use Rattle.io_edge.specs.declared.host.HostFiles.{HostFiles}
use Rattle.io_edge.specs.declared.host.HostSink.{HostSink}
use Rattle.io_edge.specs.declared.host.HostSource.{HostSource}
use Rattle.io_edge.specs.declared.host.OutputStream.{OutputStream}

-- how often standard input failed
abbrev pub input_faults : HostSource → ℕ
input_faults source = source.faults

-- how often an output stream failed
abbrev pub stream_faults : HostSink → ℕ
stream_faults sink = sink.faults

-- the stream that a sink writes to
abbrev pub stream_of : HostSink → OutputStream
stream_of sink = sink.stream

-- how often the file system failed
abbrev pub system_faults : HostFiles → ℕ
system_faults files = files.faults
