mod Mains
