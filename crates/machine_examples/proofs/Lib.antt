mod Resuming
